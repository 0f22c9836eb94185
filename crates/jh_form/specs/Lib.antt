pub mod Tree
pub mod Sorts
pub mod Bare
pub mod Meaning
pub mod Closed
pub mod Passing
pub mod Agreement
pub mod Assigned
pub mod Laws
pub mod Kinds
pub use Rattle.jh_name.specs as jh_name
