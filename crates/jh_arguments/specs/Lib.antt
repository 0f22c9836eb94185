pub mod Arguments
pub mod Held
pub mod Reading
