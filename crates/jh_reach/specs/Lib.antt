pub mod Axioms
pub mod Truths
pub mod Standing
pub mod Parts
pub mod Based
pub mod Named
pub use Rattle.jh_arena.specs.jh_boxed as jh_boxed
