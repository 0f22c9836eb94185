pub mod AtCalls
mod Callings
