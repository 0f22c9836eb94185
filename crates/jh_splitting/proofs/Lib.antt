mod Pairing
mod Closings
mod Standings
mod Shapes
mod FactSteps
mod GoalSteps
mod Edging
mod Numberings
pub mod Grown
