pub use Rattle.jh_abstraction.proofs.of_jh_query_names as of_jh_query_names
