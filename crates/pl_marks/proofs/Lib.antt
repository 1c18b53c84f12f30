pub mod DatedVisits
pub mod FreshestItem
pub mod KeptUrls
pub mod LatestVisit
mod MovedTotals
mod NoItems
mod PageDue
pub mod PageRows
pub mod PageScore
pub mod PageTags
pub mod RedirectSources
pub mod SeenVisits
pub mod TagEntries
pub mod TagNames
pub mod TagTree
pub mod TaggedPage
