pub mod Sums
pub mod Layers
