pub mod Words
pub mod Refusals
pub mod Verify
pub mod Made
pub mod Run
pub mod Causes
