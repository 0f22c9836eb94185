pub mod counting
pub mod sequent
pub mod splitting
pub use Rattle.jh_wp.specs.jh_boxed_operations as jh_boxed_operations
