mod Steps
mod Halving
mod Gathering
mod Repeats
mod Others
