pub mod MapSteps
pub mod SizeSteps
pub mod Identity
pub mod Meanings
pub mod PartLemmas
pub mod Rows
pub mod Extents
pub mod Tests
