pub mod Trivial
pub mod Laws
pub mod Facts
