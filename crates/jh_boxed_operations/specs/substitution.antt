pub mod Opened
pub mod Substituted
