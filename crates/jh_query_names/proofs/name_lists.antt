pub mod Chosen
mod Sorts
pub mod Gathers
