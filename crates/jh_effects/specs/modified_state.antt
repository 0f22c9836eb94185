pub mod Modifying
