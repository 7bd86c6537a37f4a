pub mod DeckCards
pub mod Listings
