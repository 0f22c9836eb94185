pub mod ValueSteps
pub mod FieldLists
pub mod Places
pub mod Values
