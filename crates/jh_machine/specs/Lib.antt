pub mod continuation
pub mod ghosts
pub mod locals
pub mod machine
pub mod slots
