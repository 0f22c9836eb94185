pub mod States
pub mod Facts
pub mod Formed
