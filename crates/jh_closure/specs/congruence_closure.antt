pub mod Nodes
pub mod Tables
pub mod Uses
pub mod Closing
pub mod Cores
pub mod Levels
pub mod Explaining
