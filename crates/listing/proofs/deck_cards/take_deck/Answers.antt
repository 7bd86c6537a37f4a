use Rattle.std.proofs.Common.{◌≡◌, Some, Ok, vec_items, sym, rules}
use Rattle.devices.specs.Feeding.{fed_of}
use Rattle.listing.specs.DeckCards.{deck_bytes}
use Rattle.listing.proofs.Taking.{at_mark, at_card, joined, whole}
use Rattle.listing.proofs.deck_cards.take_deck.Goals as goal

pub returns-then-is_mark : goal.returns-then-is_mark
returns-then-is_mark g c =
    let cs = g.H.Hopper.cards c.cards.hopper in
    let p : Ok (Some c.in-Some.card) ≡ fed_of cs (g.H.Hopper.ending c.cards.hopper) = search rules in
    let m = at_mark cs (g.H.Hopper.cards c.feed.new.self) (g.H.Hopper.ending c.cards.hopper) c.in-Some.card p c.feed.ensures.rest (sym c.if-is_mark.ensures) in
    let b = whole (vec_items c.cards.text) (deck_bytes cs) _ m.1 c.cards.invariant.1 in
    search rules

pub cards-preserved : goal.cards-preserved
cards-preserved g c =
    let cs = g.H.Hopper.cards c.cards.hopper in
    let p : Ok (Some c.in-Some.card) ≡ fed_of cs (g.H.Hopper.ending c.cards.hopper) = search rules in
    let cs' = g.H.Hopper.cards c.feed.new.self in
    let m = at_card cs cs' (g.H.Hopper.ending c.cards.hopper) c.in-Some.card p c.feed.ensures.rest (sym c.if-is_mark.ensures) in
    let b = joined (vec_items c.cards.text) (vec_items c.extend_from_slice.new.self) _ (deck_bytes cs) (deck_bytes cs') c.in-Some.card.columns c.in_ok-extend_from_slice.ensures.items m.1 c.cards.invariant.1 in
    search rules
