pub mod SetsOpen
pub mod Standing
mod Arms
