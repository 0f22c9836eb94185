pub mod prover
pub mod trivial
pub use Rattle.jh_approx.specs as jh_approx
pub use Rattle.jh_local.specs as jh_local
pub use Rattle.jh_approx.specs.jh_normal_forms as jh_normal_forms
pub use Rattle.jh_splitting.specs as jh_splitting
