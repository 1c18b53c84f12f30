pub mod Candidates
pub mod DecidedParts
pub mod Decides
pub mod MarkDates
pub mod Order
pub mod QueryAnswer
pub mod Subjects
