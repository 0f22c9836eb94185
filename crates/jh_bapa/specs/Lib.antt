pub mod answers
pub mod decision
