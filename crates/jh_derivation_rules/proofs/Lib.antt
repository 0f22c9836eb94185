pub mod Unmarkings
mod Cases
mod Truths
mod Equations
mod Openings
mod Citing
mod Soundness
pub mod Trees
pub mod Crossings
