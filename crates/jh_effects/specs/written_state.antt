pub mod Arising
pub mod Chosen
pub mod Keys
pub mod Methods
pub mod Reaching
