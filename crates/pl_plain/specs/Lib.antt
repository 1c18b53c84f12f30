pub mod Flat
pub mod FlatLaws
pub mod FlatRows
pub mod Latest
pub mod Place
pub mod Targets
