pub mod Choosing
pub mod Forming
