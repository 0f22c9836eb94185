pub mod Standing
pub mod ObjectSteps
pub mod NumberSteps
pub mod TruthSteps
pub mod AnySteps
