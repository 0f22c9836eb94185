mod Leaving
mod Stepping
mod Shorter
