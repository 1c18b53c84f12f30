mod FoundPages
mod GainedOrder
mod GainedPages
mod GoingOn
pub mod ItemsKept
mod ListSteps
mod NewItems
pub mod NodeLaws
pub mod NodesLeft
mod OpenSteps
mod PageSteps
mod PagesCut
mod PagesNamed
pub mod Ready
mod RestoredLaws
mod Rooms
mod Slots
mod SparedSteps
mod TagSteps
pub mod TagsKept
mod TallyLaws
mod TreeLists
mod TreeSteps
