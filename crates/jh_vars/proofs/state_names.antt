pub mod Lists
pub mod Merges
pub mod Named
