-- One line written and read again.
use Rattle.std.proofs.Common.{◌≡◌, ℕ, ◌+◌, ◌/◌, ◌%◌, ◌<◌, ◌≤◌, Bool, true, false, cond, eqb, ltb, List, [], ◌∷◌, ◌++◌, length, refl, arith, length-append}
use Rattle.std.proofs.lemmas.Bool.Decides.{nat_tests}
use Rattle.characters.specs.Printable.{printable}
use Rattle.devices.specs.Printed.{Printed}
use Rattle.strip.specs.GoodLines.{good}
use Rattle.strip.specs.Strips.{numeral, joined_to, trimmed, body}
use Rattle.strip.specs.StripReading.{read_number, past_number, padded, read_line, Longest}
use Rattle.hoppers.specs.TextLines.{no_end}
use Rattle.hoppers.proofs.Splits.{no_end-append}
use Rattle.strip.proofs.Trims.{pad, trimmed_short}

-- the bounds that every line keeps
pub record Parts (p : Printed) : Type 0 where
  pub first : 1 ≤ p.number
  pub last : p.number ≤ 256
  pub near : 1 ≤ p.spacing
  pub far : p.spacing ≤ 3
  pub wide : length p.text ≡ 132
  pub shown : printable p.text ≡ true

pub parts : (p : Printed) → good p ≡ true → Parts p
parts p h = record { first = grind (arith, nat_tests); last = grind (arith, nat_tests); near = grind (arith, nat_tests); far = grind (arith, nat_tests); wide = grind (arith, nat_tests); shown = grind (arith, nat_tests) }

pub good_from : (p : Printed) → Parts p → good p ≡ true
good_from p q =
    let a = q.first in
    let b = q.last in
    let c = q.near in
    let d = q.far in
    rw (q.shown, q.wide) (grind (arith, nat_tests))

no_end_joined : (b : ℕ) (ts : List ℕ) → eqb b 10 ≡ false → no_end ts ≡ true → no_end (joined_to b ts) ≡ true
no_end_joined b [] h k = at (eqb b 32)
  where
    at : (v : Bool) → no_end (cond v [] (b ∷ [])) ≡ true
    at true = refl
    at false = rw h refl
no_end_joined b (c ∷ cs) h k = rw h k

no_end-trimmed : (t : List ℕ) → printable t ≡ true → no_end (trimmed t) ≡ true
no_end-trimmed [] h = refl
no_end-trimmed (b ∷ bs) h = no_end_joined b (trimmed bs) (grind (arith, nat_tests)) (no_end-trimmed bs (grind (arith, nat_tests)))

no_end-numeral : (n : ℕ) → no_end (numeral n) ≡ true
no_end-numeral n = at (ltb n 10) (ltb n 100)
  where
    ne : (d : ℕ) → eqb (48 + d) 10 ≡ false
    ne d = grind (arith, nat_tests)

    at : (a b : Bool) → no_end (cond a ((48 + n) ∷ []) (cond b ((48 + n / 10) ∷ (48 + n % 10) ∷ []) ((48 + n / 100) ∷ (48 + n / 10 % 10) ∷ (48 + n % 10) ∷ []))) ≡ true
    at true b = rw (ne n) refl
    at false true = rw (ne (n / 10), ne (n % 10)) refl
    at false false = rw (ne (n / 100), ne (n / 10 % 10), ne (n % 10)) refl

pub no_end-body : (p : Printed) → good p ≡ true → no_end (body p) ≡ true
no_end-body p h =
    no_end-append (numeral p.number) (44 ∷ (numeral p.spacing ++ 44 ∷ trimmed p.text)) (no_end-numeral p.number)
    (no_end-append (numeral p.spacing) (44 ∷ trimmed p.text) (no_end-numeral p.spacing) (no_end-trimmed p.text (parts p h).shown))

padded-trimmed : (t : List ℕ) → length t ≡ 132 → padded (trimmed t) ≡ t
padded-trimmed t h = rw (← h) (pad t)

other : (d : ℕ) → eqb (48 + d) 44 ≡ false
other d = grind (arith, nat_tests)

-- a number is read as it was written, and what stands behind it is found
record Back (n : ℕ) (r bs : List ℕ) : Type 0 where
  number : read_number bs ≡ n
  rest : past_number bs ≡ r

back : (n : ℕ) (r : List ℕ) → n < 1000 → Back n r (numeral n ++ 44 ∷ r)
back n r h = at (ltb n 10) (ltb n 100) refl refl
  where
    at : (a b : Bool) → ltb n 10 ≡ a → ltb n 100 ≡ b → Back n r (cond a ((48 + n) ∷ []) (cond b ((48 + n / 10) ∷ (48 + n % 10) ∷ []) ((48 + n / 100) ∷ (48 + n / 10 % 10) ∷ (48 + n % 10) ∷ [])) ++ 44 ∷ r)
    at true b e f = record { number = omega arith; rest = refl }
    at false true e f = record { number = rw (other (n % 10)) (omega arith); rest = rw (other (n % 10)) refl }
    at false false e f = record { number = rw (other (n / 10 % 10), other (n % 10)) (omega arith); rest = rw (other (n / 10 % 10), other (n % 10)) refl }

pub line_body : (p : Printed) → good p ≡ true → read_line (body p) ≡ p
line_body p h =
    let q = parts p h in
    let s = numeral p.spacing ++ 44 ∷ trimmed p.text in
    let a = back p.number s (omega (arith, q.last)) in
    let b = back p.spacing (trimmed p.text) (omega (arith, q.far)) in
    rw (a.number, a.rest, b.number, b.rest, padded-trimmed p.text q.wide) refl

one_at_most : (n : ℕ) → n < 10 → length (numeral n) ≤ 1
one_at_most n h = let e : ltb n 10 ≡ true = grind (arith, nat_tests) in rw e (omega arith)

three_at_most : (n : ℕ) → length (numeral n) ≤ 3
three_at_most n = at (ltb n 10) (ltb n 100)
  where
    at : (a b : Bool) → length {A = ℕ} (cond a ((48 + n) ∷ []) (cond b ((48 + n / 10) ∷ (48 + n % 10) ∷ []) ((48 + n / 100) ∷ (48 + n / 10 % 10) ∷ (48 + n % 10) ∷ []))) ≤ 3
    at true b = omega arith
    at false true = omega arith
    at false false = omega arith

pub longest : Longest 139
longest p h =
    let q = parts p h in
    let s = numeral p.spacing ++ 44 ∷ trimmed p.text in
    let a = three_at_most p.number in
    let b = one_at_most p.spacing (omega (arith, q.far)) in
    let c = trimmed_short p.text in
    let w = q.wide in
    let e = length-append (body p) (10 ∷ []) in
    let f = length-append (numeral p.number) (44 ∷ s) in
    let g = length-append (numeral p.spacing) (44 ∷ trimmed p.text) in
    omega arith
