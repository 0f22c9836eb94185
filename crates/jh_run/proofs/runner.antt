pub mod Inside
pub mod Preparing
pub mod Ending
