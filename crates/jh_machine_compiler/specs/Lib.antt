pub mod Sources
pub mod Lasting
pub use Rattle.jh_command_statements.specs as jh_command_statements
