pub mod ByChanges
pub mod CameFrom
pub mod ChildItems
pub mod FoundPages
pub mod KnownAddresses
pub mod VisitSlots
