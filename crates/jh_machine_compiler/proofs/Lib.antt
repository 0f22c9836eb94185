pub mod Growing
pub mod DestinationSteps
pub mod SimpleSteps
pub mod FormulaSteps
pub mod CallSteps
pub mod GhostSteps
pub mod StepSteps
pub mod BodySteps
pub use Rattle.jh_command_statements.proofs as of_jh_command_statements
