mod GoodChanges
mod GoodIds
mod GoodImport
mod GoodItems
mod GoodPages
mod GoodParts
pub mod GoodSteps
mod GoodTitles
