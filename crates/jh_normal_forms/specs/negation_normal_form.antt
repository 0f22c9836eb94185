pub mod Memos
pub mod Negating
pub mod Normal
pub mod Unlabelling
