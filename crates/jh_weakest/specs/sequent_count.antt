pub mod Forms
pub mod Tallies
