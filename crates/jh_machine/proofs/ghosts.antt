pub mod Members
pub mod NodeSteps
