pub mod dependency_order
pub mod expansion
pub mod reads
pub use Rattle.jh_resolution.specs as jh_resolution
