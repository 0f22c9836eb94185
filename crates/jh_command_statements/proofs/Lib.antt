pub use Rattle.jh_command_terms.proofs as of_jh_command_terms
