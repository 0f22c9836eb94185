mod Lists
mod Values
mod Linkings
mod Readings
mod Askings
