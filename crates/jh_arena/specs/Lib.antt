pub mod makers
pub mod table
pub use Rattle.jh_boxed.specs as jh_boxed
pub use Rattle.jh_form.specs as jh_form
