mod Addings
mod Knowing
mod Sources
mod Using
