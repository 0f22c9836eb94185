pub mod calls
pub mod contract_instances
pub use Rattle.jh_havoc.specs.jh_command_statements as jh_command_statements
pub use Rattle.jh_command_terms.specs as jh_command_terms
