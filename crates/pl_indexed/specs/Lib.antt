pub mod Answer
pub mod Asked
pub mod Found
pub mod Sketched
pub mod Walk
