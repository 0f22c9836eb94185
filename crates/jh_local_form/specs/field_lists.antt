pub mod Changing
pub mod Leading
pub mod Testing
