pub mod TargetSteps
