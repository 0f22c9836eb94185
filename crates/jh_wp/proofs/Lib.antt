pub mod Renamings
pub mod Exactness
pub use Rattle.jh_boxed_operations.proofs.of_jh_boxed as of_jh_boxed
pub use Rattle.jh_boxed_operations.proofs as of_jh_boxed_operations
