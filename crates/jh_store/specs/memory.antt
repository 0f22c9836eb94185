pub mod Cells
pub mod Held
pub mod Fields
