pub mod row
