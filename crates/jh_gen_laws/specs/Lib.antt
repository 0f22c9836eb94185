pub mod program
pub mod sequent_count
pub mod spelling
pub mod tokens
pub mod typing
pub use Rattle.jh_obligations.specs as jh_obligations
pub use Rattle.jh_seq.specs as jh_seq
