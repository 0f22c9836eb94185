pub mod Standing
pub mod Choosing
pub mod Progressing
