pub mod AddressBar
pub mod Cost
pub mod Filled
pub mod Followers
pub mod Offers
pub mod Sketches
pub mod Standings
