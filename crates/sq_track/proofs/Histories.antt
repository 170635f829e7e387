-- Results by a history: there is exactly one, which entries it depends on, and when it is true.
pub mod ByKept
pub mod ByEntries
pub mod Contacts
pub mod Entries
pub mod EntryLaws
pub mod OneAddress
pub mod OneAnswer
pub mod OneReply
pub mod OwnPlaces
pub mod SomeAnswer
pub mod TrueHistories
