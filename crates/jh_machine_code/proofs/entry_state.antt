pub mod PartPasses
pub mod Hanging
pub mod Unkept
pub mod RecallSteps
