pub use Rattle.jh_machine_compiler.proofs.of_jh_command_statements as of_jh_command_statements
pub use Rattle.jh_outline.proofs.of_jh_effects as of_jh_effects
pub use Rattle.jh_outline.proofs.of_jh_logic as of_jh_logic
pub use Rattle.jh_outline.proofs.of_jh_parse as of_jh_parse
pub use Rattle.jh_symbols.proofs as of_jh_symbols
