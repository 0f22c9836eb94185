mod Renames
mod Rests
mod WpSteps
