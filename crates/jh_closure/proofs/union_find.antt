pub mod Rooting
pub mod Stamping
pub mod Turning
