pub mod Digits
pub mod Fits
pub mod Passing
pub mod Shallow
pub mod Sources
