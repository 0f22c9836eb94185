pub mod nesting
pub mod parser
