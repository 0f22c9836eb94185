pub mod Trees
pub mod Standing
