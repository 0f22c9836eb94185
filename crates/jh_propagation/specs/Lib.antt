pub mod propagation
pub mod trail
