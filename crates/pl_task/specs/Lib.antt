pub mod Task
