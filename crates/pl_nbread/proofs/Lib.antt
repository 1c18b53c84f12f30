mod AttributeSteps
mod BookmarkRows
mod BuildingSeen
mod BuildingSteps
mod FileStart
pub mod FittingDepths
pub mod NestedLaws
pub mod NodeLaws
mod ReaderSteps
pub mod ReferenceSteps
mod ScanParts
mod ScanSteps
pub mod TagsInText
pub mod TagsRead
pub mod TokenLaws
pub mod ValueSteps
mod WellFormedDepths
mod WellFormedNodes
mod WellFormedSizes
mod WellFormedTags
pub mod WellFormedTree
