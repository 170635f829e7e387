-- Decoding codes near a reference and in pairs: there is a result, and only one.
pub mod AirLaw
pub mod Decoded
pub mod NearLaw
pub mod OneWithin
pub mod PairLaw
pub mod PairPoints
pub mod Pairs
pub mod SomeAnswers
pub mod ZonePairs
pub mod TameAnswers
