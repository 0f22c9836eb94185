pub mod StepSteps
pub mod ToldSteps
