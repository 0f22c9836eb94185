pub mod checker
pub mod formula_kinds
pub mod method_bodies
