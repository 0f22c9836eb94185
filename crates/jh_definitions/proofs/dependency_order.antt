mod Collected
mod Entries
mod Firsts
mod Numbered
mod Ordered
mod Readers
mod Taking
mod Variables
