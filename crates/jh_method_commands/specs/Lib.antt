pub mod commands
pub mod environment
pub use Rattle.jh_call_commands.specs.jh_command_statements as jh_command_statements
