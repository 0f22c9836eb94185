pub mod Called
pub mod TurnsOf
