pub mod Shown
pub mod Names
pub mod Links
pub mod Told
pub mod Regions
pub mod Plain
pub mod Listed
pub mod Laws
