pub mod Edging
pub mod Places
