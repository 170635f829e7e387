-- Places, slow and tame worlds, and the results in them.
pub mod ByPairs
pub mod Encoded
pub mod Followed
pub mod Nearby
pub mod Pairs
pub mod Pinned
pub mod Places
pub mod SlowWorlds
pub mod SomeFix
pub mod Standing
pub mod TrueWorlds
pub mod WorkedArrivals
pub mod WorkedGround
pub mod WorkedGroundRows
pub mod WorkedRows
