pub mod code
pub mod entry_state
pub mod numbering
