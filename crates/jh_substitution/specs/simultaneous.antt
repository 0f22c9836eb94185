pub mod Lifted
pub mod OpenedAll
pub mod OpeningStays
pub mod Pairs
pub mod Several
