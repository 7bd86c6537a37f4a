pub mod Limits
pub mod Edits
pub mod Images
pub mod Lines
pub mod Drafts
pub mod Laws
pub mod Worked
