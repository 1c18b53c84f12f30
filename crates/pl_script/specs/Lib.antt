pub mod DayText
pub mod Fields
pub mod LineError
pub mod Reply
pub mod Script
pub mod TagText
