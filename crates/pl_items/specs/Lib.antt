pub mod Nodes
pub mod TakenOut
