pub mod Reached
pub mod Histories
pub mod Sure
pub mod MethodContracts
pub mod Laws
