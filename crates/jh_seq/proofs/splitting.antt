mod Closings
mod Connectives
mod Agreements
mod Assumptions
mod Passings
mod Splitting
mod Forestry
