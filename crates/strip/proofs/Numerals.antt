-- Numbers of up to three digits, as the library writes them.
use Rattle.std.proofs.Common.{◌≡◌, ℕ, ◌+◌, ◌/◌, ◌%◌, ◌<◌, Bool, true, false, cond, ltb, [], ◌∷◌, decimal, refl, ◌∙◌, arith}
use Rattle.std.proofs.lemmas.Bool.Decides.{nat_tests}
use Rattle.std.proofs.lemmas.Fmt.{decimal_digit, decimal_step}
use Rattle.strip.specs.Strips.{numeral}

pub decimal_is : (n : ℕ) → n < 1000 → decimal n ≡ numeral n
decimal_is n h = at (ltb n 10) (ltb n 100) refl refl
  where
    at : (a b : Bool) → ltb n 10 ≡ a → ltb n 100 ≡ b → decimal n ≡ cond a ((48 + n) ∷ []) (cond b ((48 + n / 10) ∷ (48 + n % 10) ∷ []) ((48 + n / 100) ∷ (48 + n / 10 % 10) ∷ (48 + n % 10) ∷ []))
    at true b e f = decimal_digit n (grind (arith, nat_tests))
    at false true e f = decimal_step n (grind (arith, nat_tests)) (omega arith) ∙ rw (decimal_digit (n / 10) (grind (arith, nat_tests))) refl
    at false false e f =
        let d : n / 10 / 10 ≡ n / 100 = omega arith in
        decimal_step n (grind (arith, nat_tests)) (omega arith) ∙ rw (decimal_step (n / 10) (grind (arith, nat_tests)) (omega arith), decimal_digit (n / 10 / 10) (omega arith), d) refl
