pub mod formulas
pub mod interpretations
pub mod sequents
pub mod state_lists
pub use Rattle.jh_effects.specs.jh_unfolding as jh_unfolding
