pub mod congruence_closure
pub mod structures
pub mod union_find
pub mod use_lists
