pub mod Marks
pub mod Sheets
