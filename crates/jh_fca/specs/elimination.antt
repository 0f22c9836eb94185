pub mod Constraints
pub mod Derived
pub mod Reads
pub mod Exchanged
pub mod Eliminated
pub mod Exact
pub mod Laws
