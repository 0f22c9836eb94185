pub mod Leading
pub mod StepCases
pub mod Turns
pub mod Results
pub mod Choosing
pub mod Popping
pub mod Simple
pub mod Whole
