pub mod Cutting
mod Standing
mod Foldings
mod Arms
mod Foreigns
