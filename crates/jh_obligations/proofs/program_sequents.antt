mod Counted
mod Formulas
mod Outlined
mod Shown
mod Unique
mod Valid
