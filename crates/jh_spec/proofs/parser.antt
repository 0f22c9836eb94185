pub mod Facts
pub mod Ends
pub mod Starts
pub mod Sound
pub mod Complete
pub mod PartSound
pub mod PartComplete
mod Levels
mod Turns
mod Members
pub mod Refusals
mod Separated
