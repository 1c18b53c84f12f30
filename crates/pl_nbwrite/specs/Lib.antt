pub mod BookmarkText
pub mod Plain
pub mod Written
