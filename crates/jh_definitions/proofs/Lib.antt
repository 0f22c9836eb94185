pub use Rattle.jh_resolution.proofs as of_jh_resolution
