pub mod Checked
mod Counted
