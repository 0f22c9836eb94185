pub mod lexer
pub mod word_front
