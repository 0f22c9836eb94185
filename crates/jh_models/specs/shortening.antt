pub mod Steps
pub mod Shortened
pub mod Laws
