pub mod Collected
pub mod Indexed
pub mod OwnLinks
pub mod Premises
pub mod Refused
pub mod Taken
