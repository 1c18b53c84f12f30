mod LatestTells
mod TimedRows
mod VisitWalk
