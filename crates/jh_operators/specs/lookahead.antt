pub mod Choices
pub mod Answers
pub mod Lists
pub mod Modifiers
pub mod Standing
