pub mod Contents
pub mod Counts
pub mod Held
pub mod Shown
pub mod Reading
pub mod MemShown
