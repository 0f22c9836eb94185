mod Labels
mod Arms
mod Normals
