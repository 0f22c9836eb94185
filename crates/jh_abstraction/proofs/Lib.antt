pub use Rattle.jh_query_names.proofs as of_jh_query_names
