-- What the search for a byte that is no character tells of a line's columns.
use Rattle.std.proofs.Common.{◌≡◌, ℕ, suc, ◌+◌, ◌<◌, Bool, true, false, cond, ◌&&◌, List, [], ◌∷◌, length, Some, None, refl, arith}
use Rattle.characters.specs.Printable.{prints, printable, unprintable_from}

pub found_within : (i k : ℕ) (bs : List ℕ) → unprintable_from i bs ≡ Some k → k < i + length bs
found_within i k [] e = let z : ◌≡◌ {A = ℕ} 0 1 = cc in absurd (omega arith)
found_within i k (b ∷ bs) e = at (prints b) (found_within (i + 1) k bs) e
  where
    at : (v : Bool) → (unprintable_from (i + 1) bs ≡ Some k → k < i + 1 + length bs) → cond v (unprintable_from (i + 1) bs) (Some i) ≡ Some k → k < i + suc (length bs)
    at true f h = omega (arith, f h)
    at false f h = let z : i ≡ k = cc in omega arith

pub none_found : (i : ℕ) (bs : List ℕ) → unprintable_from i bs ≡ None → printable bs ≡ true
none_found i [] e = refl
none_found i (b ∷ bs) e = at (prints b) (none_found (i + 1) bs) e
  where
    at : (v : Bool) → (unprintable_from (i + 1) bs ≡ None → printable bs ≡ true) → cond v (unprintable_from (i + 1) bs) (Some i) ≡ None → (v && printable bs) ≡ true
    at true f h = f h
    at false f h = let z : ◌≡◌ {A = ℕ} 0 1 = cc in absurd (omega arith)
