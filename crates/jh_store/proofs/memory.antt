pub mod Puts
pub mod Apart
pub mod States
pub mod Writes
