mod Lists
mod Measures
mod Pushing
mod Quieting
mod Forcing
mod Saids
mod Talking
mod Names
mod Implied
pub mod Resting
mod Fixes
mod Starts
mod Longer
pub mod Levels
