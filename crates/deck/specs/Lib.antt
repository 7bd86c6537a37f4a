pub mod Acted
pub mod Decks
pub mod Laws
pub mod Defined
pub mod Parts
pub mod Rules
pub mod Steps
