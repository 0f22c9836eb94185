pub mod precondition
pub mod sequent_count
pub use Rattle.jh_command_terms.specs as jh_command_terms
