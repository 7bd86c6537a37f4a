use Rattle.std.proofs.Common.{◌≡◌, ◌++◌, length, vec_items}
use Rattle.listing.specs.DeckCards.{deck_end, deck_bytes, data_cards}
use Rattle.listing.proofs.deck_cards.take_deck.Given as goal

-- what was taken, with what is still to be taken, is the whole deck
abbrev pub invariant-cards : goal.invariant-cards
invariant-cards g l =
    (deck_end (g.H.Hopper.cards l.hopper) (g.H.Hopper.ending l.hopper) ≡ deck_end (g.H.Hopper.cards l.initial.hopper) (g.H.Hopper.ending l.initial.hopper))
    × (vec_items l.text ++ deck_bytes (g.H.Hopper.cards l.hopper) ≡ vec_items l.initial.text ++ deck_bytes (g.H.Hopper.cards l.initial.hopper))
    × (data_cards (g.H.Hopper.cards l.hopper) ≡ data_cards (g.H.Hopper.cards l.initial.hopper))

abbrev pub decreases-cards : goal.decreases-cards
decreases-cards g l = length (g.H.Hopper.cards l.hopper)
