pub mod ReadSteps
pub mod ObjectSteps
pub mod NumberSteps
pub mod TruthSteps
pub mod ValueSteps
