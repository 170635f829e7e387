pub mod Pairs
mod Taken
