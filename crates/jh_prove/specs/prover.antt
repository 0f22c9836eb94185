pub mod Answers
pub mod Right
pub mod Laws
pub mod Memos
pub mod Unlabelled
