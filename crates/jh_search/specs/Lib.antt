pub mod Paths
pub mod Joining
pub mod Levels
pub mod Searches
pub mod Explained
pub mod Outcomes
