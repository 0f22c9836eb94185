pub use Rattle.jh_havoc.proofs.of_jh_command_statements as of_jh_command_statements
pub use Rattle.jh_command_terms.proofs as of_jh_command_terms
