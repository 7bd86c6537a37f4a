pub mod GoodLines
pub mod Strips
pub mod StripReading
pub mod StripMeaning
pub mod StripSteps
