pub mod idle_updates
pub mod negation_normal_form
pub mod parts
pub mod rebuilding
pub mod set_opening
pub use Rattle.jh_substitution.specs as jh_substitution
