mod AddressRows
pub mod Among
pub mod ChangedPages
pub mod ChildrenRun
mod ConstantRows
mod HistoryRows
pub mod IdsLaws
pub mod ItemLaws
pub mod ItemLookUps
pub mod KeyCounts
pub mod KindNumbers
pub mod ListLaws
pub mod LookUps
pub mod Numerals
pub mod OneChanged
pub mod OneParent
pub mod OriginLaws
pub mod OriginSums
pub mod PageLaws
pub mod PageOrder
pub mod PagesMore
mod PageSums
pub mod PagesRun
pub mod ReferencesRun
pub mod RootsLaws
pub mod Searches
pub mod SmallFrecencies
pub mod SortLaws
pub mod TablesLaws
pub mod TargetsRun
pub mod TitleCuts
mod TotalsRows
mod TreeRows
pub mod Truths
pub mod VisitLists
pub mod VisitOrder
pub mod VisitsLaws
pub mod VisitsRun
pub mod Walk
pub mod WorkedRows
