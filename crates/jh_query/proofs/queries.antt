pub use Rattle.jh_containers.proofs.capped_counts.Ceilings
pub mod Steps
pub mod Fitting
pub mod Digits
pub mod Values
pub mod Others
pub mod Below
pub mod Standing
pub mod Tallying
pub mod Parts
pub mod Measures
mod Figures
pub mod Regions
pub mod Linearities
pub mod Products
pub mod Bounds
pub mod Equalities
pub mod Renamings
