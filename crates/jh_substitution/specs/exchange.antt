pub mod Under
pub mod Staying
pub mod Laws
