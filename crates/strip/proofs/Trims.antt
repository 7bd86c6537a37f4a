-- Text without its trailing blanks.
use Rattle.std.proofs.Common.{◌≡◌, ℕ, suc, ◌+◌, ◌-◌, ◌≤◌, Bool, true, false, cond, eqb, ◌==◌, List, [], ◌∷◌, ◌++◌, length, take, replicate, reverse, sym, refl, ap, ◌∙◌, arith}
use Rattle.std.specs.List.{prefix_len}
use Rattle.std.proofs.lemmas.List.{take_all, take-append-le, length-append, length-reverse, reverse-reverse}
use Rattle.std.proofs.lemmas.Grind.{reverse_onto}
use Rattle.std.proofs.lemmas.Bool.Decides.{nat_tests}
use Rattle.strip.specs.Strips.{joined_to, trimmed}

trimmed_blank : (xs : List ℕ) → trimmed (xs ++ 32 ∷ []) ≡ trimmed xs
trimmed_blank [] = refl
trimmed_blank (x ∷ xs) = ap (joined_to x) (trimmed_blank xs)

joined_push : (x : ℕ) (xs : List ℕ) (c : ℕ) → joined_to x (xs ++ c ∷ []) ≡ x ∷ (xs ++ c ∷ [])
joined_push x [] c = refl
joined_push x (y ∷ ys) c = refl

trimmed_kept : (xs : List ℕ) (c : ℕ) → eqb c 32 ≡ false → trimmed (xs ++ c ∷ []) ≡ xs ++ c ∷ []
trimmed_kept [] c e = rw e refl
trimmed_kept (x ∷ xs) c e = ap (joined_to x) (trimmed_kept xs c e) ∙ joined_push x xs c

back_from : (ys : List ℕ) → trimmed (reverse ys) ≡ take (length ys - prefix_len (λ b. b == 32) ys) (reverse ys)
back_from [] = refl
back_from (y ∷ ys) = rw (reverse_onto ys y []) (at (eqb y 32) refl (back_from ys))
  where
    at : (v : Bool) → eqb y 32 ≡ v → trimmed (reverse ys) ≡ take (length ys - prefix_len (λ b. b == 32) ys) (reverse ys)
        → trimmed (reverse ys ++ y ∷ []) ≡ take (suc (length ys) - cond v (1 + prefix_len (λ b. b == 32) ys) 0) (reverse ys ++ y ∷ [])
    at true h e =
        let k : y ≡ 32 = grind (arith, nat_tests) in
        let r = length-reverse ys in
        let n : suc (length ys) - (1 + prefix_len (λ b. b == 32) ys) ≡ length ys - prefix_len (λ b. b == 32) ys = omega arith in
        rw (k, trimmed_blank, n, take-append-le (length ys - prefix_len (λ b. b == 32) ys) (reverse ys) (32 ∷ []) (omega arith)) e
    at false h e =
        let r = length-reverse ys in
        let l = length-append (reverse ys) (y ∷ []) in
        trimmed_kept (reverse ys) y h ∙ sym (take_all (suc (length ys) - 0) (reverse ys ++ y ∷ []) (omega arith))

-- the blanks at the end are counted from the back
pub trimmed_is : (bs : List ℕ) → trimmed bs ≡ take (length bs - prefix_len (λ b. b == 32) (reverse bs)) bs
trimmed_is bs =
    let e = back_from (reverse bs) in
    let r = reverse-reverse bs in
    let l = length-reverse bs in
    rw (r, l) at e

pad_joined : (b : ℕ) (ts bs : List ℕ) → ts ++ replicate (length bs - length ts) 32 ≡ bs → joined_to b ts ++ replicate (suc (length bs) - length (joined_to b ts)) 32 ≡ b ∷ bs
pad_joined b [] bs e = at (eqb b 32) refl
  where
    at : (v : Bool) → eqb b 32 ≡ v → cond v [] (b ∷ []) ++ replicate (suc (length bs) - length (cond v [] (b ∷ []))) 32 ≡ b ∷ bs
    at true h =
        let k : b ≡ 32 = grind (arith, nat_tests) in
        let n : suc (length bs) - 0 ≡ suc (length bs - 0) = omega arith in
        rw (n, k) (ap (λ x. 32 ∷ x) e)
    at false h = let n : suc (length bs) - 1 ≡ length bs - 0 = omega arith in rw n (ap (λ x. b ∷ x) e)
pad_joined b (c ∷ cs) bs e =
    let n : suc (length bs) - suc (suc (length cs)) ≡ length bs - suc (length cs) = omega arith in
    rw n (ap (λ x. b ∷ x) e)

-- blanks behind the trimmed text give the text again
pub pad : (t : List ℕ) → trimmed t ++ replicate (length t - length (trimmed t)) 32 ≡ t
pad [] = refl
pad (b ∷ bs) = pad_joined b (trimmed bs) bs (pad bs)

pub trimmed_short : (t : List ℕ) → length (trimmed t) ≤ length t
trimmed_short [] = omega arith
trimmed_short (b ∷ bs) = at (trimmed bs) (trimmed_short bs)
  where
    at : (ts : List ℕ) → length ts ≤ length bs → length (joined_to b ts) ≤ suc (length bs)
    at [] h = one (eqb b 32)
      where
        one : (v : Bool) → length (cond v [] (b ∷ [])) ≤ suc (length bs)
        one true = omega arith
        one false = omega arith
    at (c ∷ cs) h = omega arith
