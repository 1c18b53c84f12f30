pub mod FileLaws
pub mod Fronts
pub mod Parts
pub mod TextLaws
pub mod Zips
