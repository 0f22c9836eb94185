mod Steps
mod Joins
mod FieldLists
