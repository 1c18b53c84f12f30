pub mod Marked
pub mod Owned
pub mod Redirects
