pub mod Receivings
pub mod Entries
