pub mod Trays
pub mod TextLines
pub mod TextSteps
pub mod LineHoppers
