pub mod Meant
pub mod Sorting
pub mod Spots
