pub mod expressions
pub mod programs
pub mod statements
