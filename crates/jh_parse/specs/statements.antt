pub mod Statements
pub mod Reading
pub mod Reads
