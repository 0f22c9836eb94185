pub mod cutting
pub mod elimination
pub mod local_form
