pub mod ChangesMade
pub mod InPasses
pub mod KnownPages
pub mod PutViews
pub mod ViewLookUps
