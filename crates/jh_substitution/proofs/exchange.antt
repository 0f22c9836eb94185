pub mod Liftings
pub mod Meanings
pub mod Keeping
mod Rules
