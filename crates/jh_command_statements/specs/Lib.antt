pub mod checks
pub mod simple_statements
pub use Rattle.jh_command_terms.specs as jh_command_terms
pub use Rattle.jh_guard.specs as jh_guard
