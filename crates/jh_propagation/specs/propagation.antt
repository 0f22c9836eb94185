pub mod Problems
pub mod Speaking
pub mod Branches
pub mod Closings
pub mod Resting
pub mod Passing
pub mod Levels
