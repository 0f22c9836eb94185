pub mod Forests
pub mod Split
pub mod Laws
pub mod Local
