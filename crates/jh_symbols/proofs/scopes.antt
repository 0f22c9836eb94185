pub mod Lists
mod Arguments
mod Results
pub mod Changes
mod Undoing
mod Behind
