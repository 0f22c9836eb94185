pub mod Stops
pub mod Assigning
pub mod Formulas
pub mod Overflows
pub mod Todos
pub mod Done
pub mod Resumed
