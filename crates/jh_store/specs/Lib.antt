pub mod heaps
pub mod memory
pub mod state_pairs
pub use Rattle.jh_sem.specs as jh_sem
