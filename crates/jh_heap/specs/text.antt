pub mod Outlines
pub mod Drafts
pub mod Rules
pub mod Reading
pub mod Writing
pub mod Errors
pub mod Held
