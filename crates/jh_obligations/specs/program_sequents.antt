pub mod Faults
pub mod Owing
pub mod Owed
pub mod Sources
pub mod Laws
