pub mod Characters
pub mod Lengths
