pub mod Device
pub mod FileCalls
pub mod Gate
pub mod Recovery
pub mod States
