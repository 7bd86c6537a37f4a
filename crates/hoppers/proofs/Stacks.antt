-- What one card takes from cards that stand end to end.
use Rattle.std.proofs.Common.{◌≡◌, ℕ, suc, ◌/◌, ◌%◌, ◌≤◌, List, ◌∷◌, length, take, drop, refl, ap, arith, length-drop}
use Rattle.hoppers.specs.Trays.{first_cards, whole_cards, leftover}

pub cards_more : (bs : List ℕ) → 80 ≤ length bs → whole_cards bs ≡ record { columns = take 80 bs } ∷ whole_cards (drop 80 bs)
cards_more bs h =
    let e : length bs / 80 ≡ suc (length (drop 80 bs) / 80) = simp length-drop (omega arith) in
    ap (λ n. first_cards n bs) e

pub leftover_same : (bs : List ℕ) → 80 ≤ length bs → leftover (drop 80 bs) ≡ leftover bs
leftover_same bs h =
    let e : length (drop 80 bs) % 80 ≡ length bs % 80 = simp length-drop (omega arith) in
    rw e refl
