pub mod File
pub mod Live
pub mod Read
pub mod Texts
