-- An image is as wide as its picture and code say.
use Rattle.std.proofs.Common.{◌≡◌, ℕ, suc, ◌+◌, ◌-◌, ◌/◌, ◌%◌, ◌≤◌, Bool, true, false, cond, ◌&&◌, eqb, ltb, List, [], ◌∷◌, ◌++◌, length, ℤ, nat_abs, Some, None, sym, refl, ap, ◌∙◌, add-zero, arith, length-append}
use Rattle.std.proofs.lemmas.List.{length-replicate}
use Rattle.std.proofs.lemmas.Bool.Decides.{nat_tests}
use Rattle.images.specs.declared.edits.SignStyle.{SignStyle}
use Rattle.images.specs.declared.edits.SignStyle.TheVariants.{Omitted, Minus}
use Rattle.images.specs.declared.edits.EditStyle.{EditStyle}
use Rattle.numbers.specs.Signs.{negative}
use Rattle.images.specs.Edits.{style_of, sign_width}
use Rattle.images.specs.Images.{digits, unedited, mark, marked, text, text_width, sign_bytes, blanked, edited_width, edited}
use Rattle.images.specs.Laws.{WidthStands}
use Rattle.images.proofs.Backs.{length_digits}
use Rattle.images.proofs.Fronts.{length-blanked}
use Rattle.images.proofs.Cases.{edited_is}

length-mark : (commas : Bool) (d k : ℕ) → length (mark commas d k) ≡ cond (eqb k d) (cond (eqb d 0) 0 1) (cond (commas && (ltb d k && eqb ((k - d) % 3) 0)) 1 0)
length-mark commas d k = at (eqb k d) (eqb d 0) (commas && (ltb d k && eqb ((k - d) % 3) 0))
  where
    at : (a b c : Bool) → length {A = ℕ} (cond a (cond b [] (46 ∷ [])) (cond c (44 ∷ []) [])) ≡ cond a (cond b 0 1) (cond c 1 0)
    at true true c = refl
    at true false c = refl
    at false b true = refl
    at false b false = refl

-- the marks among n digits
marks : Bool → ℕ → ℕ → ℕ
marks commas d n = cond (ltb d n) (cond (eqb d 0) 0 1) 0 + cond commas ((n - d - 1) / 3) 0

marks_none : (commas : Bool) (d : ℕ) → 0 ≡ marks commas d 0
unfolding marks
marks_none true d = grind (arith, nat_tests)
marks_none false d = grind (arith, nat_tests)

marks_more : (commas : Bool) (d n : ℕ) → cond (eqb n d) (cond (eqb d 0) 0 1) (cond (commas && (ltb d n && eqb ((n - d) % 3) 0)) 1 0) + marks commas d n ≡ marks commas d (suc n)
unfolding marks
marks_more true d n = grind (arith, nat_tests)
marks_more false d n = grind (arith, nat_tests)

length_marked : (commas : Bool) (d : ℕ) (cs : List ℕ) → length (marked commas d 0 cs) ≡ length cs + marks commas d (length cs)
length_marked commas d [] = sym (rw (← (marks_none commas d)) refl)
length_marked commas d (c ∷ cs) =
    let a : length (mark commas d (length cs + 0) ++ marked commas d 0 cs) ≡ length (mark commas d (length cs)) + length (marked commas d 0 cs) = rw (add-zero (length cs)) (length-append _ _) in
    let m : length (mark commas d (length cs)) + marks commas d (length cs) ≡ marks commas d (suc (length cs)) = rw (length-mark commas d (length cs)) (marks_more commas d (length cs)) in
    omega (arith, length_marked commas d cs)

widths : (commas : Bool) (n d : ℕ) → d ≤ n → cond (eqb n d) (cond (eqb d 0) 0 1) 0 + (n + marks commas d n) ≡ text_width commas n d
unfolding marks
widths true n d h = grind (arith, nat_tests)
widths false n d h = grind (arith, nat_tests)

pub length-text : (commas : Bool) (d n x : ℕ) → d ≤ n → length (text commas d (digits n x)) ≡ text_width commas n d
length-text commas d n x h =
    let a : length (text commas d (digits n x)) ≡ length (mark false d (length (digits n x))) + length (marked commas d 0 (digits n x)) = length-append _ _ in
    let l = length_digits n x in
    let m = length_marked commas d (digits n x) in
    let k = length-mark false d n in
    a ∙ rw (m, l, k) (widths commas n d h)

pub length_sign : (s : SignStyle) (m : Bool) → length (sign_bytes s m) ≡ sign_width s
length_sign Omitted m = refl
length_sign Minus m = refl

-- digits alone are a text with no mark
text_plain : (j : ℕ) (ds : List ℕ) → marked false 0 j ds ≡ ds
text_plain j [] = refl
text_plain j (c ∷ cs) = at (eqb (length cs + j) 0) (text_plain j cs)
  where
    at : (b : Bool) → marked false 0 j cs ≡ cs → c ∷ (cond b [] [] ++ marked false 0 j cs) ≡ c ∷ cs
    at true e = ap (λ t. c ∷ t) e
    at false e = ap (λ t. c ∷ t) e

pub text_is : (ds : List ℕ) → text false 0 ds ≡ ds
text_is ds = at (eqb (length ds) 0)
  where
    at : (b : Bool) → cond b [] [] ++ marked false 0 0 ds ≡ ds
    at true = text_plain 0 ds
    at false = text_plain 0 ds

pub length-unedited : (n : ℕ) (z : ℤ) → 1 ≤ n → length (unedited n z) ≡ n
length-unedited n z h =
    let l = length_digits (n - 1) (nat_abs z / 10) in
    simp length-append (omega (arith, l))

pub length-shown : (e : EditStyle) (n d : ℕ) (z : ℤ) → d ≤ n → length (blanked (text e.commas d (digits n (nat_abs z))) ++ sign_bytes e.sign (negative z)) ≡ edited_width e n d
length-shown e n d z h =
    let t = length-text e.commas d n (nat_abs z) h in
    let s = length_sign e.sign (negative z) in
    let b = length-blanked (text e.commas d (digits n (nat_abs z))) in
    length-append (blanked (text e.commas d (digits n (nat_abs z)))) (sign_bytes e.sign (negative z)) ∙ rw (b, t, s) refl

pub length-edited : (e : EditStyle) (n d : ℕ) (z : ℤ) → d ≤ n → length (edited e n d z) ≡ edited_width e n d
length-edited e n d z h = edited_is (λ cs. length cs ≡ edited_width e n d) e n d z (λ _. length-replicate {A = ℕ} (edited_width e n d) 32) (length-shown e n d z h)

pub width_stands : WidthStands
width_stands None n d z h k = length-unedited n z h
width_stands (Some c) n d z h k = length-edited (style_of c) n d z k
