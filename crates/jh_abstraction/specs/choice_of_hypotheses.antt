pub mod Asking
pub mod Choosing
