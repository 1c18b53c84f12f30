pub mod BackupText
pub mod BackupTree
pub mod Reading
pub mod ReadsBack
pub mod Weights
pub mod Written
