pub mod AskedLaws
mod ConditionRows
mod HostEnds
mod ItemSearch
mod MarkLaws
mod TagFolds
mod VisitSearch
