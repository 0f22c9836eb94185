pub mod Digits
pub mod Causes
pub mod Pieces
pub mod LocalCauses
