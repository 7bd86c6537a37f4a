-- Why the listing goes on: a turn without room changes nothing, and there is a line to write out.
use Rattle.std.proofs.Common.{◌≡◌, ℕ, ◌+◌, ◌*◌, ◌<◌, ◌≤◌, min, Bool, true, false, List, [], ◌∷◌, length, Some, None, Ok, Err, Option, Result, ap, arith}
use Rattle.devices.specs.declared.card.Card.{Card}
use Rattle.devices.specs.Printed.{Printed}
use Rattle.strip.specs.Strips.{strips}
use Rattle.listing.specs.declared.listing.BadColumn.{BadColumn}
use Rattle.listing.specs.declared.listing.Listed.{Listed}
use Rattle.listing.specs.declared.listing.Listed.TheVariants as listed
use Rattle.listing.specs.declared.listing.ListError.{ListError}
use Rattle.listing.specs.Listings.{listing_line, answer_of, ListsNext}

record Kept (cs cs' : List Card) (ls ls' : List Printed) : Type 0 where
  cards : cs' ≡ cs
  lines : ls' ≡ ls

none_fed : {F : Type 0} (room : Bool) (cs cs' : List Card) (e e' : Option F) (ls ls' : List Printed) → ListsNext (Ok listed.NoRoom) room cs e ls cs' e' ls' → Kept cs cs' ls ls'
none_fed true [] cs' None e' ls ls' s = let a = s.answer in let z : ◌≡◌ {A = ℕ} 0 1 = cc in absurd (omega arith)
none_fed true [] cs' (Some f) e' ls ls' s = let a = s.answer in let z : ◌≡◌ {A = ℕ} 0 1 = cc in absurd (omega arith)
none_fed {F} true (c ∷ cs) cs' e e' ls ls' s = at (listing_line c) s.answer
  where
    at : (r : Result Printed BadColumn) → ◌≡◌ {A = Result Listed (ListError F)} (Ok listed.NoRoom) (answer_of r) → Kept (c ∷ cs) cs' ls ls'
    at (Ok p) a = let z : ◌≡◌ {A = ℕ} 0 1 = cc in absurd (omega arith)
    at (Err b) a = let z : ◌≡◌ {A = ℕ} 0 1 = cc in absurd (omega arith)
none_fed false cs cs' e e' ls ls' s = record { cards = s.rest; lines = s.after }

-- bytes on a strip are lines on it
some_held : (ls : List Printed) (bs : List ℕ) → bs ≡ strips ls → (length bs ≡ 0 → ⊥) → 1 ≤ length ls
some_held [] bs e h = absurd (h (ap length e))
some_held (l ∷ ls) bs e h = omega arith

-- once the lines are written out there is less to do, ls'' being the lines that are left
pub less_to_do : {F : Type 0} (room : Bool) (cs cs' : List Card) (e e' : Option F) (ls ls' ls'' : List Printed) (bs : List ℕ) → ListsNext (Ok listed.NoRoom) room cs e ls cs' e' ls' → bs ≡ strips ls' → (length bs ≡ 0 → ⊥) → ls'' ≡ [] →
    2 * length cs' + min 1 (length ls'') < 2 * length cs + min 1 (length ls)
less_to_do room cs cs' e e' ls ls' ls'' bs s w h z =
    let k = none_fed room cs cs' e e' ls ls' s in
    let a = ap length k.cards in
    let b = ap length k.lines in
    let d = ap length z in
    let f = some_held ls' bs w h in
    omega arith
