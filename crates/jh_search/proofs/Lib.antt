mod Lists
mod Backs
mod Leaves
mod Levels
mod Descents
mod Moves
mod Turning
