mod Cases
pub mod Checking
