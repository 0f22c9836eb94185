pub mod Leasts
pub mod Scopings
mod Wholes
mod Others
