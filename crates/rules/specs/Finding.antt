-- The first entry of a list that equals another.
use Rattle.std.specs.Prelude.{ℕ, suc, ◌<◌, Bool, true, false, cond, List, [], ◌∷◌, length, Some, None, Option, MatchOption, nat_eq}
use Rattle.std.specs.Option.{option_map}
use Rattle.std.specs.List.{HoldsAt, AllWithin}
use Rattle.std.specs.Str.{bytes_eq}

-- r is the first place whose entry may be called equal, and each before it may be called unequal
abbrev pub First : {X : Type 0} → (X → Bool → Type 0) → List X → Option ℕ → Type 0
First E xs r =
    MatchOption r (AllWithin (λ y. E y false) xs 0 (length xs))
    (λ i. (i < length xs) × HoldsAt (λ y. E y true) xs i × AllWithin (λ y. E y false) xs 0 i)

-- the first place whose entry passes a test
abbrev pub first_of : {X : Type 0} → (X → Bool) → List X → Option ℕ
first_of t [] = None
first_of t (x ∷ xs) = cond (t x) (Some 0) (option_map suc (first_of t xs))

-- the first place of a name, and of an indicator
abbrev pub place_of_name : List (List ℕ) → List ℕ → Option ℕ
place_of_name names n = first_of (λ y. bytes_eq y n) names

abbrev pub place_of_indicator : List ℕ → ℕ → Option ℕ
place_of_indicator xs n = first_of (λ y. nat_eq y n) xs
