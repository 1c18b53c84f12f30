pub mod Chained
pub mod Held
pub mod Members
pub mod Owners
pub mod Reads
pub mod RowSlots
pub mod Whole
