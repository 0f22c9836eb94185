pub use Rattle.jh_path_formulas.proofs.NodeSteps
mod Paths
mod Counts
mod Shortening
mod Forests
mod Changes
mod Logic
mod Along
mod Held
mod Updated
mod Sound
pub mod Standings
pub mod Basing
mod Entering
