mod Aligning
mod Framings
pub mod Outlining
mod Standing
pub mod Telling
