pub mod Facts
pub mod Nesting
