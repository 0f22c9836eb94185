pub mod ExprSteps
pub mod StmtSteps
pub mod FormSteps
pub mod Moves
