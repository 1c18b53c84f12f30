pub mod SoughtWords
