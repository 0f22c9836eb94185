pub mod declarations
pub mod member_numbers
pub mod scopes
