pub mod Cut
pub mod Folding
pub mod Leaves
pub mod Laws
