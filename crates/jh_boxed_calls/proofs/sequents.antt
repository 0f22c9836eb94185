mod Firsts
pub mod EnteredSteps
