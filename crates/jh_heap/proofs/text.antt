mod Rulings
mod Settings
mod Finishings
mod Readings
mod Writings
