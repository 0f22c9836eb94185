pub mod Sorting
pub mod Lists
