pub mod Drafts
pub mod Framing
pub mod Listing
pub mod Rows
