mod ConstantRows
pub mod Points
pub mod Rounding
pub mod StoreSamples
pub mod WeightChanges
