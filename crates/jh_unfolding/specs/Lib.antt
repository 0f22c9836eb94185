pub mod unfolder
pub mod visitor
