pub mod Lookings
pub mod Asking
pub mod Changing
pub mod Firsts
