pub mod layout
pub mod loading
pub use Rattle.jh_heap.specs as jh_heap
pub use Rattle.jh_state_facts.specs as jh_state_facts
