pub mod Items
pub mod Readable
pub mod RowIds
pub mod Rows
pub mod Tags
pub mod Visited
