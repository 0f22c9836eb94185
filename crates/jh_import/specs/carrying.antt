pub mod Carried
pub mod Memos
