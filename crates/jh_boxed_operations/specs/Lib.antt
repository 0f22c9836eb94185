pub mod comparison
pub mod equality
pub mod substitution
pub use Rattle.jh_boxed.specs as jh_boxed
