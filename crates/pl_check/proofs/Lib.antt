pub mod DistinctLaws
pub mod GoodRows
pub mod ItemTests
pub mod RootTests
pub mod RowTests
pub mod TagTests
pub mod TagWalks
pub mod VisitedPages
