pub mod CheckSteps
mod TermSteps
