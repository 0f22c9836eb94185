pub mod Standing
pub mod Constraining
pub mod Reading
pub mod Memos
pub mod Walking
pub mod Finding
