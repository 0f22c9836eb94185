pub mod Structures
pub mod Literals
