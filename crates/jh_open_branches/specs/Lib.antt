pub mod Placed
pub mod Waits
