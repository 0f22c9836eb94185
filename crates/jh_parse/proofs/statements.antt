pub mod Ends
pub mod Starts
pub mod Sound
pub mod Complete
mod Rests
