pub mod Between
pub mod InOrder
pub mod Listed
pub mod NewUrls
