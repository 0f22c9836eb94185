pub mod closed_terms
pub mod instance_count
pub mod instances
pub mod skolem_constants
pub use Rattle.jh_inst.specs.jh_derivation_rules as jh_derivation_rules
pub use Rattle.jh_inst.specs as jh_inst
