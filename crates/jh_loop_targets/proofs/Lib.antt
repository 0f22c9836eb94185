pub mod Enterings
pub mod Filterings
pub mod Firsts
pub mod Ghosted
pub mod Notings
pub mod Orders
pub mod Writings
