pub mod classes
pub mod flattening
