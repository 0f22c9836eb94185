pub mod Each
pub mod Chosen
pub mod Named
pub mod Chains
pub mod LocalOf
pub mod Laws
