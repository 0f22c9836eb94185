pub mod Scoping
pub mod Parts
