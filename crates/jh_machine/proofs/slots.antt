pub mod Pushing
pub mod LocalSteps
pub mod HomeSteps
