pub mod Found
pub mod GoodItems
pub mod Room
