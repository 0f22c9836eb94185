mod Keeping
mod Normals
mod Making
