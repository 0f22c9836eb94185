mod Closings
pub mod Elses
mod Joins
mod Lifts
mod Plains
pub mod Shapes
mod Grounded
