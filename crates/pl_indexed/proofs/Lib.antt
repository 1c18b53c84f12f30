pub mod AlikeLists
pub mod AnswerOfViews
mod AskedTexts
mod FirstPages
pub mod FoundOrder
pub mod KeyOrder
mod NextAhead
mod NextViews
pub mod PagesTold
mod SketchedViews
pub mod SortedParts
pub mod TakenViews
mod ViewRows
pub mod ViewsWalk
pub mod WalkOrder
pub mod WatchableRows
