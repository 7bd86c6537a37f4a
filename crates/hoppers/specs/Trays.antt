-- Cards that stand end to end.
use Rattle.std.specs.Prelude.{◌≡◌, ℕ, zero, suc, ◌/◌, ◌%◌, cond, List, [], ◌∷◌, length, take, drop, Some, None, Option, ◌==◌}
use Rattle.devices.specs.declared.card.Card.{Card}
use Rattle.hoppers.specs.declared.tray.Leftover.{Leftover}
use Rattle.hoppers.specs.declared.tray.Tray.{Tray}

-- the first n cards of the bytes
abbrev pub first_cards : ℕ → List ℕ → List Card
first_cards zero bs = []
first_cards (suc n) bs = record { columns = take 80 bs } ∷ first_cards n (drop 80 bs)

-- as many cards as the bytes hold whole
abbrev pub whole_cards : List ℕ → List Card
whole_cards bs = first_cards (length bs / 80) bs

-- a rest shorter than a card is a fault that tells its length
abbrev pub leftover : List ℕ → Option Leftover
leftover bs = cond (length bs % 80 == 0) None (Some (record { length = length bs % 80 }))

-- the cards that a tray has to come
abbrev pub tray_cards : Tray → List Card
tray_cards t = whole_cards t.rest.now

-- how they end
abbrev pub tray_ending : Tray → Option Leftover
tray_ending t = leftover t.rest.now

-- a new tray has all cards of the bytes to come
pub record TrayMade (bs : List ℕ) (t : Tray) : Type 0 where
  pub cards : tray_cards t ≡ whole_cards bs
  pub ending : tray_ending t ≡ leftover bs
