pub mod Among
pub mod PartNames
mod DroppedNames
mod Holding
mod Described
pub mod Naming
mod NamedClosed
mod Chained
mod Sound
mod Bare
mod Opens
mod CutShapes
mod PartsWithin
mod Spines
mod AxiomShapes
pub mod Shaped
mod Examples
mod Worked
