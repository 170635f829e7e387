pub mod Counts
pub mod ZoneBounds
pub mod ByValue
pub mod Bands
