pub mod Puttings
mod Rules
