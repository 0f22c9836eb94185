mod Naming
mod Interpreted
mod Modelled
