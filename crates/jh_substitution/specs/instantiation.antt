pub mod Putting
pub mod Staying
pub mod Laws
