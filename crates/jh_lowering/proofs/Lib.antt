pub mod Lists
pub mod Resolving
