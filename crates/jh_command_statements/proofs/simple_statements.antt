mod CheckedSteps
mod LeftSteps
mod ValueSteps
mod Dots
