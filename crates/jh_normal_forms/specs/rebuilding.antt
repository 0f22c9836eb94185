pub mod Built
pub mod Memos
pub mod Sound
pub mod Walking
