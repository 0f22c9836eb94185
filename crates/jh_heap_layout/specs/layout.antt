pub mod Chosen
pub mod Lasting
