pub mod Filling
pub mod Groups
pub mod Held
pub mod Standing
