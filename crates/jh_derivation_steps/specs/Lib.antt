pub mod closedness
pub mod premises
