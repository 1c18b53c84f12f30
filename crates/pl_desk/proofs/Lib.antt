pub mod AnyMoment
mod Clock
mod Desks
mod Files
mod Inside
pub mod Moments
mod ReplayLaws
pub mod SettlingLaws
mod Stops
pub mod Told
