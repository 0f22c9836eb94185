mod Spelling
mod Joining
mod Shown
