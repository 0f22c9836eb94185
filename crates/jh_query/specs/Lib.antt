pub mod partial_truth
pub mod queries
