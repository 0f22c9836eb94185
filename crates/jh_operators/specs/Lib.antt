pub mod lookahead
pub mod operators
