mod AnswerRows
pub mod AllParts
pub mod AnsweredRows
pub mod CandidateOrder
mod CutTexts
pub mod FoldedTags
mod HostCuts
pub mod MarksLatest
pub mod PageParts
pub mod PartLists
pub mod RowsShown
mod TagsTold
mod UrlRecords
pub mod ViewsDecide
