mod Reversals
mod Naming
mod Stating
mod Labelling
mod Declaring
