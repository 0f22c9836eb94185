pub use Rattle.jh_boxed.proofs as of_jh_boxed
