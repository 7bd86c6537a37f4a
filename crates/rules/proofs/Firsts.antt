-- The first breach as std finds it, and what it means that an answer is the first.
use Rattle.std.proofs.Common.{◌≡◌, ℕ, zero, suc, ◌<◌, List, [], ◌∷◌, get_or, is_some, Some, None, Option, refl, arith}
use Rattle.std.specs.List.{find}
use Rattle.std.specs.Option.{option_flatten}
use Rattle.rules.specs.Rules.{first, IsFirst}

module _ {X : Type 0} where
  pub first_found : (rs : List (Option X)) → option_flatten (find is_some rs) ≡ first rs
  first_found [] = refl
  first_found (None ∷ rs) = first_found rs
  first_found (Some b ∷ rs) = refl

  pub first-none : (rs : List (Option X)) → first rs ≡ None → IsFirst rs None
  first-none [] e i = refl
  first-none (None ∷ rs) e zero = refl
  first-none (None ∷ rs) e (suc i) = first-none rs e i
  first-none (Some x ∷ rs) e i = absurd cc

  pub first_some : (rs : List (Option X)) (b : X) → first rs ≡ Some b → IsFirst rs (Some b)
  first_some [] b e = absurd cc
  first_some (None ∷ rs) b e =
      let p = first_some rs b e in
      (suc p.0, p.1, λ j h. before_it rs p.0 p.2 j h)
    where
      before_it : (rs : List (Option X)) (i : ℕ) → ((j : ℕ) → j < i → get_or rs j None ≡ None) → (j : ℕ) → j < suc i → get_or (None ∷ rs) j None ≡ None
      before_it rs i h zero l = refl
      before_it rs i h (suc j) l = h j (omega arith)
  first_some (Some x ∷ rs) b e = (0, e, λ j h. absurd (omega arith))
