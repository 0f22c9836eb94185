pub mod OutlineSteps
mod ItemSteps
