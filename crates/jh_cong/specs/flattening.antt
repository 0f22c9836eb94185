pub mod TreeValues
pub mod Plain
pub mod Flattening
