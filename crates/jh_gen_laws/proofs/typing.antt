pub mod Declaring
pub mod Faultless
pub mod Methods
pub mod Names
