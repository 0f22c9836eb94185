mod Gathered
mod Tested
mod Standing
mod Led
mod Changed
mod Known
mod Reached
