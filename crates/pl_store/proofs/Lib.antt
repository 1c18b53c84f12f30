mod BoundLaws
mod CommitLemmas
pub mod KeeperLaws
mod OpenedAgain
mod OpenedFiles
mod OwnPages
pub mod StandsLaws
