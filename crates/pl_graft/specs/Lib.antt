pub mod Gained
pub mod Import
pub mod OpenFolders
pub mod Ready
pub mod Restored
pub mod Spared
pub mod Standing
pub mod Tally
