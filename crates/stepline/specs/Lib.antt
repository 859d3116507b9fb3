pub mod StepLine
pub mod Shown
