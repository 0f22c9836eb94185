pub mod Steps
pub mod Resting
pub mod Marks
pub mod Testing
pub mod Keeping
