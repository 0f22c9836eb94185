mod EnteredSteps
mod SequentSteps
