pub mod Counting
pub mod Namers
pub mod Parts
