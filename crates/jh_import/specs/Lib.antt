pub mod carrying
pub mod entering
