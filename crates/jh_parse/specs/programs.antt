pub mod Literals
pub mod Members
pub mod MemberReading
pub mod MemberReads
pub mod Parsed
pub mod Separated
