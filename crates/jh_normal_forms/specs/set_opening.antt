pub mod SetsOpened
pub mod Laws
pub mod Joining
