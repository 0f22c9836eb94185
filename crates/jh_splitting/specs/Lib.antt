pub mod Closed
pub mod Edges
pub mod Pairs
pub mod Standing
pub mod Left
pub mod Numbering
