pub mod Calls
pub mod Frames
