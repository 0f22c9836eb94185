pub mod Parts
pub mod Defaults
pub mod Wholes
pub mod Refused
