pub mod Updating
pub mod Remaining
pub mod Describing
pub mod Telling
pub mod NamedUpdates
