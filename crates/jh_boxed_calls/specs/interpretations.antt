pub mod Interps
