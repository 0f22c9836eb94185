pub mod Chaining
