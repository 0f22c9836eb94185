mod Collections
mod Listings
mod Askings
