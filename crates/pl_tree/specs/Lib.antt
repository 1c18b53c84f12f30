pub mod Changes
pub mod LostPages
pub mod Places
pub mod Refused
pub mod Tagged
