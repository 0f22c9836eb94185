mod Dots
mod Said
mod Equations
mod Belows
mod Truths
mod Covers
mod Solutions
mod Meeting
mod Completing
mod Fitness
mod Spelling
mod Systematic
pub mod Known
mod Spoilings
mod Choosing
mod Searches
mod Placements
mod Gatherings
pub mod Bounded
