pub mod instances
pub mod plain_formulas
pub use Rattle.jh_derivation_rules.specs as jh_derivation_rules
