pub mod Opens
pub mod Following
pub mod Operands
pub mod Bares
pub mod Sights
pub mod Turning
