pub mod Listings
pub mod Growing
pub mod Gatherings
mod LinkSorts
