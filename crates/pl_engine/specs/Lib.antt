pub mod Idle
pub mod Parts
pub mod Returns
