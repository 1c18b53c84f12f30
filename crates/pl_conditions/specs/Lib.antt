pub mod Asked
pub mod AskedParts
pub mod Conditions
