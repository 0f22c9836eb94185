mod Following
mod Values
mod Leasts
mod Joining
mod Minima
mod Others
