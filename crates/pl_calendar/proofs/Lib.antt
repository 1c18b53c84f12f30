pub mod DueLists
pub mod EntryOrder
