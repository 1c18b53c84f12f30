pub mod Following
pub mod Freeing
pub mod FrontParts
pub mod HeldTexts
pub mod ReadTexts
pub mod RowParts
pub mod SlotsOfTexts
pub mod Storing
mod WorkedTexts
