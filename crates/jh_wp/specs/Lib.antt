pub mod Command
pub mod Renamed
pub mod Runs
pub mod Wp
pub mod Laws
pub use Rattle.jh_boxed_operations.specs.jh_boxed as jh_boxed
pub use Rattle.jh_boxed_operations.specs as jh_boxed_operations
