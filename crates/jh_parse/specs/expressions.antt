pub mod Operators
pub mod Expressions
pub mod Reading
pub mod Reads
