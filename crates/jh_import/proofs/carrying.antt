mod Carries
mod Placements
mod Splits
