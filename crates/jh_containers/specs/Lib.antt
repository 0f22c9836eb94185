pub mod capped_counts
pub mod connected_component
pub mod shared_lists
pub mod topological_order
pub mod transitive_closure
