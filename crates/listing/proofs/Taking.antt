-- The steps of taking the cards of a deck from a hopper.
use Rattle.std.proofs.Common.{◌≡◌, ℕ, true, false, List, [], ◌∷◌, ◌++◌, Some, None, Ok, Option, sym, refl, ap, ◌∙◌, append_assoc, append-nil, arith}
use Rattle.devices.specs.declared.card.Card.{Card}
use Rattle.devices.specs.Feeding.{fed_of, rest_of}
use Rattle.listing.specs.declared.deck_cards.DeckEnd.TheVariants.{Mark}
use Rattle.listing.specs.DeckCards.{is_mark, deck_end, deck_bytes, data_cards}

module _ {F : Type 0} where
  -- a card that was fed was the first
  pub fed_first : (cs : List Card) (e : Option F) (c : Card) → Ok (Some c) ≡ fed_of cs e → cs ≡ c ∷ rest_of cs
  fed_first [] None c p = absurd (let z : ◌≡◌ {A = ℕ} 0 1 = cc in omega arith)
  fed_first [] (Some f) c p = absurd (let z : ◌≡◌ {A = ℕ} 0 1 = cc in omega arith)
  fed_first (x ∷ xs) e c p = cc

  -- at the mark all is taken; cs are the cards before it was fed, and cs' those after
  pub at_mark : (cs cs' : List Card) (e : Option F) (c : Card) → Ok (Some c) ≡ fed_of cs e → cs' ≡ rest_of cs → is_mark c ≡ true
      → (deck_end cs e ≡ Ok Mark) × (deck_bytes cs ≡ []) × (data_cards cs ≡ cs')
  at_mark cs cs' e c p q m =
      let f = fed_first cs e c p in (
        ap (λ (xs : List Card). deck_end xs e) f ∙ rw m refl,
        ap deck_bytes f ∙ rw m refl,
        ap data_cards f ∙ (rw m (sym q)),
      )

  -- any other card is taken, and the rest of the deck is to come
  pub at_card : (cs cs' : List Card) (e : Option F) (c : Card) → Ok (Some c) ≡ fed_of cs e → cs' ≡ rest_of cs → is_mark c ≡ false
      → (deck_end cs e ≡ deck_end cs' e) × (deck_bytes cs ≡ c.columns ++ deck_bytes cs') × (data_cards cs ≡ data_cards cs')
  at_card cs cs' e c p q m =
      let f = fed_first cs e c p in (
        ap (λ (xs : List Card). deck_end xs e) f ∙ rw (m, q) refl,
        ap deck_bytes f ∙ rw (m, q) refl,
        ap data_cards f ∙ rw (m, q) refl,
      )

-- what stood there, the card's columns and the rest of the deck
pub joined : (old new given deck rest columns : List ℕ) → new ≡ old ++ columns → deck ≡ columns ++ rest → old ++ deck ≡ given → new ++ rest ≡ given
joined old new given deck rest columns p q r = rw (p, append_assoc) (ap (λ (xs : List ℕ). old ++ xs) (sym q) ∙ r)

pub whole : (old deck given : List ℕ) → deck ≡ [] → old ++ deck ≡ given → old ≡ given
whole old deck given p r = sym (append-nil old) ∙ ap (λ (xs : List ℕ). old ++ xs) (sym p) ∙ r
