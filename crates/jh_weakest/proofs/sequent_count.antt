mod Ceilings
mod Shares
mod Takings
mod Values
mod Goings
mod Insides
mod Commands
