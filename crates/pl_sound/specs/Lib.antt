pub mod Marks
pub mod Redirects
pub mod Right
pub mod Sums
pub mod Visits
