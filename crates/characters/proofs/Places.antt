-- The first byte that is no character.
use Rattle.std.proofs.Common.{◌≡◌, ℕ, ◌+◌, Bool, true, false, Some, cond, not, List, [], ◌∷◌, refl}
use Rattle.std.specs.List.{position_from}
use Rattle.characters.specs.Printable.{prints, unprintable_from}

pub is_unprintable_from : (i : ℕ) (bs : List ℕ) → position_from (λ b. not (prints b)) i bs ≡ unprintable_from i bs
is_unprintable_from i [] = refl
is_unprintable_from i (b ∷ bs) = rw (is_unprintable_from (i + 1) bs) (at (prints b))
  where
    at : (v : Bool) → cond (not v) (Some i) (unprintable_from (i + 1) bs) ≡ cond v (unprintable_from (i + 1) bs) (Some i)
    at true = refl
    at false = refl
