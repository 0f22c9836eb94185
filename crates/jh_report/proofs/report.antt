mod Numbered
mod Accepting
