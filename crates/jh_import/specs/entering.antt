pub mod Atoms
pub mod Entered
