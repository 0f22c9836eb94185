pub mod Solution
pub mod Nodes
pub mod Totals
pub mod Answers
