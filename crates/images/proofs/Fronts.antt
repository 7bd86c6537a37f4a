-- What blanking a front does.
use Rattle.std.proofs.Common.{◌≡◌, ℕ, suc, Bool, true, false, cond, ◌||◌, eqb, List, [], ◌∷◌, ◌++◌, length, refl, ap}
use Rattle.images.specs.Drafts.{fills_blanked}
use Rattle.images.specs.Images.{blanked}

pub length-blanked : (cs : List ℕ) → length (blanked cs) ≡ length cs
length-blanked [] = refl
length-blanked (c ∷ []) = refl
length-blanked (c ∷ b ∷ cs) = at (eqb c 48 || eqb c 44) (length-blanked (b ∷ cs))
  where
    at : (p : Bool) → length (blanked (b ∷ cs)) ≡ length (b ∷ cs) → length (cond p (32 ∷ blanked (b ∷ cs)) (c ∷ b ∷ cs)) ≡ length (c ∷ b ∷ cs)
    at true e = ap suc e
    at false e = refl

more : (p : Bool) (b : ℕ) (cs : List ℕ) (c : ℕ) → fills_blanked cs ++ c ∷ [] ≡ blanked (cs ++ c ∷ []) →
    cond p (32 ∷ fills_blanked cs) (b ∷ cs) ++ c ∷ [] ≡ cond p (32 ∷ blanked (cs ++ c ∷ [])) (b ∷ (cs ++ c ∷ []))
more true b cs c h = ap (λ t. 32 ∷ t) h
more false b cs c h = refl

-- behind a front the last column stays
pub blanked_last : (cs : List ℕ) (c : ℕ) → fills_blanked cs ++ c ∷ [] ≡ blanked (cs ++ c ∷ [])
blanked_last [] c = refl
blanked_last (b ∷ []) c = more (eqb b 48 || eqb b 44) b [] c refl
blanked_last (b ∷ a ∷ cs) c = more (eqb b 48 || eqb b 44) b (a ∷ cs) c (blanked_last (a ∷ cs) c)
