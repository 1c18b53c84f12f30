pub mod Bar
pub mod Pieces
pub mod TagLists
pub mod TagName
