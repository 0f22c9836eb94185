mod StopSteps
pub use Rattle.jh_command_statements.proofs as of_jh_command_statements
