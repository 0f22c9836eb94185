pub mod solver
pub mod systems
