pub use Rattle.jh_boxed.proofs as of_jh_boxed
pub use Rattle.jh_form.proofs as of_jh_form
