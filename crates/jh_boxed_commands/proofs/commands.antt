pub mod TreeSteps
mod EnterSteps
mod BoxSteps
