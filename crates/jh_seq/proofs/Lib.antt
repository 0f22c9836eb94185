pub use Rattle.jh_wp.proofs.of_jh_boxed_operations as of_jh_boxed_operations
