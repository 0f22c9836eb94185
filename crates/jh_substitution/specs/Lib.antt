pub mod exchange
pub mod instantiation
pub mod opening
pub mod rewriting
pub mod simultaneous
pub use Rattle.jh_boxed_operations.specs as jh_boxed_operations
