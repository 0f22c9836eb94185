pub mod frames
pub mod interpreter
pub use Rattle.jh_machine_code.specs as jh_machine_code
