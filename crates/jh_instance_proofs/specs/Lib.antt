pub mod derivations
pub use Rattle.jh_refutation_proofs.specs.jh_search as jh_search
