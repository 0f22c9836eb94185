mod Growths
mod Meanings
mod Notes
pub mod Rebuilds
pub mod Stands
