pub mod backjumping
pub mod ground_models
pub mod interpretations
pub mod shortening
