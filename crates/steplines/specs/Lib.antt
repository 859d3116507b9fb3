pub mod StepLines
pub mod Walk
