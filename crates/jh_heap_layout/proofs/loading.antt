pub mod Lists
pub mod Folds
pub mod Fielding
pub mod Numbers
pub mod Setting
