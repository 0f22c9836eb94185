pub mod Sequents
