pub mod Report
pub mod Gathered
