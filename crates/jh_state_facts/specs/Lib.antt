pub mod changes
pub mod schemas
pub mod well_formedness
