pub mod Lengths
pub mod Backwards
