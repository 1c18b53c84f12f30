pub mod BroughtBack
pub mod KnownTags
pub mod Outline
pub mod Pile
pub mod Shown
pub mod Whole
