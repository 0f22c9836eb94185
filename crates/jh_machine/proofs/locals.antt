pub mod LocalSteps
