pub mod Aged
pub mod Alike
pub mod Figures
pub mod Freshest
pub mod Refreshed
pub mod TagFolders
pub mod UrlParts
