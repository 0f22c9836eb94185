pub mod Gathering
pub mod Noted
pub mod Telling
