mod Capping
mod Nulls
mod Tallying
mod Weights
