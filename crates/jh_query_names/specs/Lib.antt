pub mod mentioned_names
pub mod name_lists
pub mod query_names
pub mod visible_part
