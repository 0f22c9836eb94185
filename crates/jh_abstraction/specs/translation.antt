pub mod Operators
pub mod Telling
