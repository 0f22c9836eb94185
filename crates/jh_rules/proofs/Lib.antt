pub mod Judgements
mod Ends
mod Cases
mod Counts
