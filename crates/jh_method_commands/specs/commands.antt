pub mod Sides
pub mod Made
