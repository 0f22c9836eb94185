mod Leasts
mod More
mod Sequents
pub use Rattle.jh_local_form.proofs.of_jh_query_names as of_jh_query_names
