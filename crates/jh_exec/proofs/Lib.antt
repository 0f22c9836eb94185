pub use Rattle.jh_machine_code.proofs as of_jh_machine_code
