pub mod lines
pub mod object_bounds
pub mod text
