mod CutFound
pub mod DatedPages
mod FirstLaws
mod LatestTold
mod OverVisits
mod PagesJoined
mod PagesWalk
mod SeenOrder
mod SkipLaws
pub mod UntimedQuery
mod VisitRows
mod VisitsWalk
