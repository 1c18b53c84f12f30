pub mod Due
pub mod Sample
