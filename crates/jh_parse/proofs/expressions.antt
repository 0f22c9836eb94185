pub mod Facts
pub mod Ends
pub mod Starts
pub mod Sound
pub mod Complete
mod Levels
mod Rests
