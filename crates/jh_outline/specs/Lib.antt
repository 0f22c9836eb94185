pub mod declarations
pub mod outline
pub use Rattle.jh_method_commands.specs.jh_command_statements as jh_command_statements
pub use Rattle.jh_effects.specs as jh_effects
pub use Rattle.jh_logic.specs.jh_guard as jh_guard
pub use Rattle.jh_logic.specs as jh_logic
pub use Rattle.jh_method_commands.specs as jh_method_commands
pub use Rattle.jh_logic.specs.jh_parse as jh_parse
pub use Rattle.jh_effects.specs.jh_type as jh_type
pub use Rattle.jh_effects.specs.jh_unfolding as jh_unfolding
pub use Rattle.jh_vars.specs as jh_vars
