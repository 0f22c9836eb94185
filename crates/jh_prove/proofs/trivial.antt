mod Shapes
mod Validity
