pub use Rattle.jh_prove.proofs as of_jh_prove
pub use Rattle.jh_splitting.proofs as of_jh_splitting
