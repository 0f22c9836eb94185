pub mod Marks
pub mod Related
pub mod Compared
pub mod Exchanged
pub mod Inside
pub mod Unmarked
