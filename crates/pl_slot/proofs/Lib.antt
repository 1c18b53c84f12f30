pub mod ArenaLaws
mod ArenaRows
pub mod BytesAt
pub mod ChainCount
pub mod ChainLaws
pub mod CountLaws
pub mod FieldLaws
pub mod Fields
pub mod FitsLaws
pub mod Grown
pub mod GrownArena
pub mod HeaderLaws
pub mod LinkFields
pub mod LinkLaws
pub mod LinkPlaces
pub mod LinkRows
pub mod RowLaws
pub mod RowsRead
pub mod Settled
pub mod SlotPlaces
mod SlotRows
pub mod TakenLaws
pub mod TakingLaws
