pub mod Homes
pub mod Seen
