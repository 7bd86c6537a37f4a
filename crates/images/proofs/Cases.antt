-- Facts on a mark and on an edited image, by the columns that each can be.
use Rattle.std.proofs.Common.{◌≡◌, ℕ, ◌-◌, ◌%◌, Bool, true, false, cond, ◌&&◌, eqb, ltb, List, [], ◌∷◌, ◌++◌, replicate, ℤ, nat_abs, refl}
use Rattle.images.specs.declared.edits.EditStyle.{EditStyle}
use Rattle.numbers.specs.Signs.{negative}
use Rattle.images.specs.Images.{digits, mark, text, blanked, sign_bytes, edited_width, edited}

-- a mark is none, a point or a comma
pub mark_is : (P : List ℕ → Type 0) (commas : Bool) (d k : ℕ) → P [] → P (46 ∷ []) → P (44 ∷ []) → P (mark commas d k)
mark_is P commas d k none point comma = at (eqb k d) (eqb d 0) (commas && (ltb d k && eqb ((k - d) % 3) 0))
  where
    at : (a b c : Bool) → P (cond a (cond b [] (46 ∷ [])) (cond c (44 ∷ []) []))
    at true true c = none
    at true false c = point
    at false b true = comma
    at false b false = none

-- an edited image is blanks, where it is a zero that is blanked, or what is shown
pub edited_is : (P : List ℕ → Type 0) (e : EditStyle) (n d : ℕ) (z : ℤ) → (eqb (nat_abs z) 0 ≡ true → P (replicate (edited_width e n d) 32)) →
    P (blanked (text e.commas d (digits n (nat_abs z))) ++ sign_bytes e.sign (negative z)) → P (edited e n d z)
edited_is P e n d z blanks shows = at e.blank_zero (eqb (nat_abs z) 0) refl
  where
    at : (p q : Bool) → eqb (nat_abs z) 0 ≡ q → P (cond (p && q) (replicate (edited_width e n d) 32) (blanked (text e.commas d (digits n (nat_abs z))) ++ sign_bytes e.sign (negative z)))
    at true true k = blanks k
    at true false k = shows
    at false q k = shows
