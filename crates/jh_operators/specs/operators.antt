pub mod Infixes
