pub mod logic
pub mod source
pub mod text
pub use Rattle.jh_guard.specs as jh_guard
pub use Rattle.jh_parse.specs as jh_parse
