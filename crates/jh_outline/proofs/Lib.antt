pub use Rattle.jh_method_commands.proofs.of_jh_command_statements as of_jh_command_statements
pub use Rattle.jh_effects.proofs as of_jh_effects
pub use Rattle.jh_logic.proofs as of_jh_logic
pub use Rattle.jh_method_commands.proofs as of_jh_method_commands
pub use Rattle.jh_logic.proofs.of_jh_parse as of_jh_parse
