pub mod Limits
pub mod Signs
pub mod Reading
pub mod Outcomes
pub mod Exact
pub mod Places
