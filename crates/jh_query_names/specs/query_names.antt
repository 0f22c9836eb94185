pub mod Gathered
pub mod Kinds
pub mod Finding
