pub mod NewPage
pub mod OwnPage
pub mod Room
pub mod Waiting
