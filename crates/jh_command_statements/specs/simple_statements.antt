pub mod Returns
pub mod Ghosts
