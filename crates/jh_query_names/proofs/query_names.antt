pub mod Onces
mod PartNames
mod Findings
mod Steps
