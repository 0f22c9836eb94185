pub mod Listed
mod Cases
