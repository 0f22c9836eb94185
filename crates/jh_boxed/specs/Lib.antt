pub mod Mapped
pub mod Shapes
pub mod Sizes
pub mod Parts
pub mod Kept
pub use Rattle.jh_form.specs as jh_form
pub use Rattle.jh_name.specs as jh_name
