mod Locals
mod Proofs
mod Grounds
mod Labels
mod Found
mod Made
mod Boxed
pub mod Facts
pub mod Crossings
mod Among
mod Restricted
pub use Rattle.jh_ground_input.proofs.of_jh_query_names as of_jh_query_names
