pub mod KnownPages
pub mod KnownTags
pub mod NamedUrls
pub mod TagRows
