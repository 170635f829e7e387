pub mod Grids
pub mod Decoding
pub mod Distances
