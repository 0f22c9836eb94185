pub mod Answered
pub mod Defining
