pub mod Terms
pub mod Items
pub mod Writes
pub mod Steps
pub mod Frames
pub mod Loops
pub mod Calls
pub mod Statements
pub mod Methods
pub mod Laws
pub use Rattle.jh_wp.specs as jh_wp
