mod Additions
pub mod Shapes
