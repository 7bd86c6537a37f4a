-- The first place whose entry passes a test: as std counts it, and where the entries are parts of others.
use Rattle.std.proofs.Common.{◌≡◌, ℕ, suc, ◌+◌, Bool, true, false, cond, not, List, [], ◌∷◌, length, map, Some, None, refl, ◌∙◌, ap, nat_lt, arith}
use Rattle.std.specs.List.{position, position_or_len}
use Rattle.std.specs.Option.{option_map}
use Rattle.std.proofs.lemmas.Bool.Decides.{nat_tests}
use Rattle.rules.specs.Finding.{first_of}

counted : (b : Bool) (p n : ℕ) → let i = cond (not b) (1 + p) 0 in cond (nat_lt i (suc n)) (Some i) None ≡ cond b (Some 0) (option_map suc (cond (nat_lt p n) (Some p) None))
counted true p n = grind (arith, nat_tests)
counted false p n = grind (arith, nat_tests)

pub first_of-position : {X : Type 0} (t : X → Bool) (xs : List X) → position t xs ≡ first_of t xs
first_of-position t [] = refl
first_of-position t (x ∷ xs) = counted (t x) (position_or_len t xs) (length xs) ∙ ap (λ r. cond (t x) (Some 0) (option_map suc r)) (first_of-position t xs)

pub first_of-map : {X Y : Type 0} (t : Y → Bool) (f : X → Y) (xs : List X) → first_of t (map f xs) ≡ first_of (λ x. t (f x)) xs
first_of-map t f [] = refl
first_of-map t f (x ∷ xs) = ap (λ r. cond (t (f x)) (Some 0) (option_map suc r)) (first_of-map t f xs)
