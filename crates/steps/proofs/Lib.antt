pub mod StartHeights
pub mod NarrowLaws
pub mod StepLaws
pub mod VotePlaces
pub mod StopChecks
pub mod Settled
