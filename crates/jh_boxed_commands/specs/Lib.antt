pub mod commands
pub mod conditions
pub mod methods
pub use Rattle.jh_outline.specs.jh_command_statements as jh_command_statements
pub use Rattle.jh_outline.specs.jh_logic as jh_logic
