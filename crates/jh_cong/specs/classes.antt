pub mod Saying
pub mod Equatable
pub mod Constants
pub mod States
