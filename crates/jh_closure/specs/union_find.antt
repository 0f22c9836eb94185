pub mod Merges
pub mod Stamps
