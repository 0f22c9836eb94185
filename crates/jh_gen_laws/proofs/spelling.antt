pub mod Bodies
pub mod Formulas
pub mod Members
pub mod Programs
pub mod Standing
