pub use Rattle.jh_parse.proofs as of_jh_parse
