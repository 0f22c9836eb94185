mod Entered
mod Insides
mod Listings
