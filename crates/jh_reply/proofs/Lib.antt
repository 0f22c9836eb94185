mod Apart
mod Endings
pub mod Exactness
pub mod Few
pub mod Findings
pub mod Fitting
mod Jobs
pub mod Leaves
mod Lengths
mod Summing
mod Judging
mod Tallies
mod Verifying
