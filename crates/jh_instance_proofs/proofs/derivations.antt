mod Forms
mod Shallow
