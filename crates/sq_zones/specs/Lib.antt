pub mod Zones
pub mod Laws
