mod Adding
mod Meanings
