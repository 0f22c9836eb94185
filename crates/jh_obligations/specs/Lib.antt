pub mod command_sequents
pub mod program_sequents
pub use Rattle.jh_arena.specs as jh_arena
pub use Rattle.jh_outline.specs.jh_guard as jh_guard
pub use Rattle.jh_outline.specs.jh_parse as jh_parse
