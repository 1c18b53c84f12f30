pub mod NewDay
pub mod Titled
pub mod VisitPages
