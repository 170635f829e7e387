-- used by the crates that depend on this one as well
pub mod Floors
pub mod Windows
pub mod Congruence
pub mod Rounding
pub mod Fractions
pub mod Sizes
pub mod Orders
-- about angles and their texts
pub mod LowestTerms
pub mod Twos
pub mod TrailingZeros
pub mod Coprime
pub mod OneText
pub mod OneSpelling
pub mod Texts
pub mod OneReading
pub mod OnePosition
pub mod SomeText
pub mod Reciprocals
pub mod SpellingParts
