pub mod outcome
pub mod preparation
pub mod runner
pub use Rattle.jh_machine_compiler.specs.jh_command_statements as jh_command_statements
pub use Rattle.jh_heap_layout.specs.jh_heap as jh_heap
pub use Rattle.jh_outline.specs.jh_logic as jh_logic
pub use Rattle.jh_machine.specs as jh_machine
pub use Rattle.jh_outline.specs.jh_parse as jh_parse
pub use Rattle.jh_outline.specs.jh_type as jh_type
pub use Rattle.jh_outline.specs.jh_unfolding as jh_unfolding
