mod Appended
mod DecodedBack
mod EscapeSteps
mod FileKept
mod LinesBack
mod ListSteps
mod ListsBack
pub mod ReadsBack
mod TextKept
pub mod TextRows
mod TokenSteps
mod ValuesBack
