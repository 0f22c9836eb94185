pub mod Separating
pub mod Meeting
pub mod Aparting
pub mod Keeping
pub mod Oks
pub mod Looking
pub mod Answering
pub mod Sorting
