mod Pairing
mod Bareness
mod Asking
mod Querying
pub mod Rights
mod Crossings
