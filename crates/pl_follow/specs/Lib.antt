pub mod Changes
pub mod Order
pub mod Texts
pub mod Urls
