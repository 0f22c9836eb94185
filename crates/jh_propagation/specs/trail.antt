pub mod Saying
pub mod Listing
pub mod Forms
pub mod Looks
pub mod Occurring
pub mod Laws
