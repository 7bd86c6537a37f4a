mod Running
pub mod Fillings
