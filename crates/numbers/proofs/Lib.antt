pub mod Tens
pub mod Scales
pub mod Sizes
pub mod Settles
