pub mod Orderings
pub mod Reached
mod Walks
