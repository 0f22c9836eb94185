pub mod Steps
pub mod Cited
pub mod Rules
pub mod Closes
pub mod Laws
pub use Rattle.jh_reach.specs as jh_reach
pub use Rattle.jh_seq.specs as jh_seq
