pub mod Opposites
mod Propagation
mod Clashing
mod Models
mod Cases
mod Leaves
mod Beginning
mod Fixing
pub mod Growing
