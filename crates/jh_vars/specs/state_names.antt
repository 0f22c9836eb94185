pub mod Pieces
pub mod States
