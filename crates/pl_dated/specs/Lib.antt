pub mod Latest
pub mod Listed
