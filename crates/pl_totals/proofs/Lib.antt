mod Beginnings
pub mod Best
mod FillingRows
pub mod Followed
pub mod HeldLaws
mod Members
pub mod OriginPages
pub mod Pushed
mod Sorted
pub mod Stepped
pub mod TextKeys
mod Told
