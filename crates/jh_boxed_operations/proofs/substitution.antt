pub mod Openings
pub mod Substitutions
