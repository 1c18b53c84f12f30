mod ByPage
mod NamedSums
mod RedirectedVisits
mod RightMarks
mod SameLists
pub mod WholeRows
