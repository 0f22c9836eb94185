mod Bools
mod Found
mod Sound
mod Everywhere
mod Shapes
pub mod Local
mod Readings
mod Raisings
mod Variations
mod Absences
mod Unread
mod Gathered
mod Gone
mod Exactly
mod Examples
