mod Forms
mod Marked
