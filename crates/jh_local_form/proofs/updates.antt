pub mod Collecting
pub mod Places
mod Apart
mod Noted
mod Parted
mod Beyond
pub mod Askings
pub mod Renamed
pub mod Described
pub mod Told
