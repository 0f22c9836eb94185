pub mod Exprs
pub mod Faults
pub mod Scalars
pub use Rattle.jh_store.specs.jh_sem as jh_sem
