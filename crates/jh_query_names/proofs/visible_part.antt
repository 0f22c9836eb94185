mod Foldings
mod Standing
mod Arms
mod Joins
