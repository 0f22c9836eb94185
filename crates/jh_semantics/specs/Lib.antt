pub mod Code
pub mod Program
pub mod State
pub mod Values
pub mod Locals
pub mod WellFormed
pub mod Progress
pub mod Objects
pub mod Execution
pub mod Entry
pub mod Frame
pub mod Sound
pub mod Lowered
pub mod LoweredStmts
pub mod LoweredProgram
pub mod Laws
pub mod Typed
pub mod Heaps
pub mod typed_code
pub use Rattle.jh_arena.specs as jh_arena
pub use Rattle.jh_arena.specs.jh_boxed as jh_boxed
pub use Rattle.jh_vars.specs as jh_vars
