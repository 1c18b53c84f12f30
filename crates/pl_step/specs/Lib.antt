pub mod Commands
pub mod Parsed
pub mod Refused
pub mod Run
pub mod Step
pub mod StepErrors
