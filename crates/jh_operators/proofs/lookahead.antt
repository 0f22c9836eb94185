pub mod Facts
pub mod Lists
pub mod Modified
pub mod Options
pub mod Symbols
pub mod Words
