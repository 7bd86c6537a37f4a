pub mod Classes
pub mod Filling
