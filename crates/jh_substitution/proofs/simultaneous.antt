mod Both
mod Fixes
mod Leaves
mod Liftings
mod Meanings
mod Openings
mod Rules
