pub mod Graphs
pub mod Wide
pub mod Bounds
