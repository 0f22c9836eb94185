pub mod command
pub mod terms
pub use Rattle.jh_guard.specs as jh_guard
pub use Rattle.jh_guard.specs.jh_wp as jh_wp
