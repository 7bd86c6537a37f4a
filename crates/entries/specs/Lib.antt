pub mod Entries
pub mod Indicators
pub mod Literals
