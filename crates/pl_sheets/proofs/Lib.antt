mod Bits
mod Flags
mod Levels
pub mod Listing
pub mod PagesLaws
