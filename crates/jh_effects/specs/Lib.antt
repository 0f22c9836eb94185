pub mod direct_effects
pub mod modified_state
pub mod written_state
pub use Rattle.jh_ast.specs as jh_ast
pub use Rattle.jh_type.specs as jh_type
pub use Rattle.jh_unfolding.specs as jh_unfolding
pub use Rattle.jh_vars.specs as jh_vars
