pub mod AddedItems
pub mod DifferByItems
pub mod DifferByPage
mod FoundItems
pub mod ImportedReferences
mod ItemParts
mod ItemViews
mod LeftReferences
mod MappedReferences
pub mod MovedReferences
pub mod NewReferences
pub mod RemovedReferences
mod TagParts
pub mod TaggedReferences
pub mod UntaggedReferences
