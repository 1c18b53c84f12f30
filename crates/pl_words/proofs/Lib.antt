pub mod AsciiFolds
mod BarRows
mod FoldRows
pub mod FoundLaws
pub mod JoinedTags
mod PieceRows
mod PieceSteps
mod PrefixSteps
mod StandingSteps
pub mod TagListLaws
pub mod TagNames
mod TagRows
pub mod TagTests
pub mod WrittenBytes
