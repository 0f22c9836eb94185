mod Lists
mod Paths
mod On
mod Back
