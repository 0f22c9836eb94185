pub mod choice_of_hypotheses
pub mod translation
pub use Rattle.jh_query_names.specs as jh_query_names
pub use Rattle.jh_splitting.specs as jh_splitting
