pub mod Memos
pub mod Folding
pub mod Showing
