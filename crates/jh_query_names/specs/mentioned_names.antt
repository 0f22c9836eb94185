pub mod Memos
pub mod Notes
pub mod Linking
