pub mod Agreeing
mod Cases
pub mod Steady
mod Values
