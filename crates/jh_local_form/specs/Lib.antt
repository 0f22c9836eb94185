pub mod field_lists
pub mod local_sequents
pub mod updates
pub use Rattle.jh_abstraction.specs as jh_abstraction
pub use Rattle.jh_fca.specs as jh_fca
pub use Rattle.jh_abstraction.specs.jh_query_names as jh_query_names
