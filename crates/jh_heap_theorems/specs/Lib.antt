pub mod program_fits
pub mod round_trip
