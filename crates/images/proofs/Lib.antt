pub mod Cases
pub mod Befores
pub mod Fronts
pub mod Backs
pub mod Widths
pub mod Characters
pub mod Putting
