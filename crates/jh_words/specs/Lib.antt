pub mod CommandLine
pub mod Held
pub mod Usage
