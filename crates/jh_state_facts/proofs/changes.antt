pub mod AddedSteps
mod ItemSteps
