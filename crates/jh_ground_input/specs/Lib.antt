pub mod Standing
pub use Rattle.jh_local_form.specs.jh_abstraction as jh_abstraction
pub use Rattle.jh_local_form.specs.jh_fca as jh_fca
pub use Rattle.jh_instantiation.specs as jh_instantiation
pub use Rattle.jh_local_form.specs as jh_local_form
pub use Rattle.jh_normal_forms.specs as jh_normal_forms
pub use Rattle.jh_local_form.specs.jh_query_names as jh_query_names
