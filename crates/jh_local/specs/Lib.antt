pub mod Answers
pub mod Standing
pub mod Laws
pub use Rattle.jh_ground_input.specs.jh_abstraction as jh_abstraction
pub use Rattle.jh_ground_input.specs.jh_fca as jh_fca
pub use Rattle.jh_inst.specs as jh_inst
pub use Rattle.jh_instance_proofs.specs as jh_instance_proofs
pub use Rattle.jh_ground_input.specs.jh_local_form as jh_local_form
pub use Rattle.jh_models.specs as jh_models
pub use Rattle.jh_ground_input.specs.jh_query_names as jh_query_names
