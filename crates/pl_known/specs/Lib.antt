pub mod Changes
pub mod Known
pub mod Passes
pub mod Props
