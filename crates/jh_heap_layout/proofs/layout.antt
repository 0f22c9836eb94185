pub mod Numbering
pub mod Choosing
