pub mod Atoms
pub mod Grouping
