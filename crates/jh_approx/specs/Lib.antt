pub mod definition
pub mod free_name_tests
pub use Rattle.jh_derivation_rules.specs as jh_derivation_rules
pub use Rattle.jh_normal_forms.specs as jh_normal_forms
pub use Rattle.jh_derivation_rules.specs.jh_reach as jh_reach
