pub mod Cheap
pub mod Codes
pub mod Formulas
pub mod Programs
