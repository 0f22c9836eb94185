pub mod EnterSteps
pub mod Fields
pub mod Keeping
pub mod Adding
