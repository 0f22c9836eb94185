pub mod Counted
pub mod Goals
pub mod Laws
