mod KeyLookups
mod NamedSteps
pub mod PageLookups
mod TagLookups
pub mod TagRowLaws
mod TagsRead
