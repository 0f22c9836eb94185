pub mod Moments
pub mod Making
