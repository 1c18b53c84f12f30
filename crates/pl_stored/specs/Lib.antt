pub mod Fits
pub mod Stored
