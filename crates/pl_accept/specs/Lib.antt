pub mod Accepted
pub mod Held
pub mod OwnLists
