-- Whole numbers made larger by a factor, and fractions of one value.
use Rattle.std.proofs.Common.{◌≡◌, ℕ, zero, suc, ◌+◌, ◌*◌, ◌/◌, ◌^◌, ◌<◌, ◌≤◌, Bool, ℤ, pos, negsuc, ◌+ℤ◌, ◌*ℤ◌, neg_ℤ, nat_abs, sym, refl, ap, ◌∙◌, mul_assoc, mul_comm, div-mul-le_self, arith}
use native.Mathlib.Nat.{mul-div-mul_right, div-eq_of_lt-le, lt-div-mul-add}
use lib.IntN.{*ℤ_comm, *ℤ-zero, suc_ℤ-*ℤ}
use Rattle.std.proofs.lemmas.Int.{ints}
use Rattle.numbers.specs.Signs.{negative, signed}
use Rattle.numbers.specs.declared.kinds.Rounding.{Rounding}
use Rattle.numbers.specs.declared.kinds.Rounding.TheVariants.{Cut, HalfAdjust}
use Rattle.numbers.specs.Exact.{Fraction, taken, Same, units}
use Rattle.numbers.specs.Places.{Is, CountsPlaces}
use Rattle.numbers.proofs.Tens.{ten_some}

pub nat_abs_scaled : (z : ℤ) (n : ℕ) → nat_abs (z *ℤ pos n) ≡ nat_abs z * n
nat_abs_scaled z n = grind arith

pub negative_scaled : (z : ℤ) (n : ℕ) → 0 < n → negative (z *ℤ pos n) ≡ negative z
negative_scaled z n h = grind arith

pub neg_scaled : (z : ℤ) (n : ℕ) → neg_ℤ z *ℤ pos n ≡ neg_ℤ (z *ℤ pos n)
neg_scaled z n = grind arith

pub scaled_scaled : (z : ℤ) (m n : ℕ) → (z *ℤ pos m) *ℤ pos n ≡ z *ℤ pos (m * n)
scaled_scaled (pos a) m n = grind (arith, mul_assoc)
scaled_scaled (negsuc a) m n = grind (arith, neg_scaled (pos (suc a * m)) n, mul_assoc)

scaled_more : (z : ℤ) (n : ℕ) → z *ℤ pos (suc n) ≡ z *ℤ pos n +ℤ z
scaled_more z n = grind (arith, *ℤ_comm, suc_ℤ-*ℤ)

pub sum_scaled : (x y : ℤ) (n : ℕ) → (x +ℤ y) *ℤ pos n ≡ x *ℤ pos n +ℤ y *ℤ pos n
sum_scaled x y zero = rw (*ℤ-zero (x +ℤ y), *ℤ-zero x, *ℤ-zero y) refl
sum_scaled x y (suc n) =
    let a = scaled_more x n in
    let b = scaled_more y n in
    let s = scaled_more (x +ℤ y) n in
    let h = sum_scaled x y n in
    omega (arith, ints)

-- fractions of one value are taken alike
cut_same : (n d m e : ℕ) → 0 < d → 0 < e → n * e ≡ m * d → n / d ≡ m / e
cut_same n d m e p q h =
    sym (mul-div-mul_right {m = e} n d q) ∙ rw (h, mul_comm d e) (mul-div-mul_right {m = d} m e p)

pub taken_same : (r : Rounding) (n d m e : ℕ) → 0 < d → 0 < e → n * e ≡ m * d → taken r n d ≡ taken r m e
taken_same Cut n d m e p q h = cut_same n d m e p q h
taken_same HalfAdjust n d m e p q h = cut_same (2 * n + d) (2 * d) (2 * m + e) (2 * e) (omega arith) (omega arith) (omega arith)

-- a whole number is taken as it is
pub taken_whole : (r : Rounding) (x y : ℕ) → 0 < y → taken r (x * y) y ≡ x
taken_whole Cut x y h = div-eq_of_lt-le y (omega arith) (omega arith)
taken_whole HalfAdjust x y h = div-eq_of_lt-le (2 * y) (omega arith) (omega arith)

pub units_same : (r : Rounding) (d : ℕ) (f g : Fraction) → 0 < f.den → 0 < g.den → Same f g → units r d f ≡ units r d g
units_same r d f g p q h =
    let s : negative f.num ≡ negative g.num = grind (arith, negative_scaled, h) in
    let n : nat_abs f.num * g.den ≡ nat_abs g.num * f.den = grind (arith, nat_abs_scaled, h) in
    let t : taken r (nat_abs f.num * 10 ^ d) f.den ≡ taken r (nat_abs g.num * 10 ^ d) g.den =
    taken_same r (nat_abs f.num * 10 ^ d) f.den (nat_abs g.num * 10 ^ d) g.den p q (omega (arith, ap (λ x. x * 10 ^ d) n)) in
    rw (s, t) refl

pub nat_abs_signed : (b : Bool) (n : ℕ) → nat_abs (signed b n) ≡ n
nat_abs_signed b n = grind arith

-- the size of a count, by the inequalities that single it out
Size : Rounding → ℕ → ℕ → ℕ → Type 0
Size Cut n d q = (q * d ≤ n) × (n < (q + 1) * d)
Size HalfAdjust n d q = (2 * q * d ≤ 2 * n + d) × (2 * n < 2 * q * d + d)

size_is : (r : Rounding) (n d : ℕ) → 0 < d → Size r n d (taken r n d)
unfolding Size
size_is Cut n d h =
    let a = div-mul-le_self n d in
    let b : n < n / d * d + d = lt-div-mul-add h in
    (a, omega arith)
size_is HalfAdjust n d h =
    let a = div-mul-le_self (2 * n + d) (2 * d) in
    let b : 2 * n + d < (2 * n + d) / (2 * d) * (2 * d) + 2 * d = lt-div-mul-add (omega arith) in
    (omega arith, omega arith)

size_only : (r : Rounding) (n d q : ℕ) → Size r n d q → taken r n d ≡ q
unfolding Size
size_only Cut n d q s = div-eq_of_lt-le d s.0 s.1
size_only HalfAdjust n d q s = div-eq_of_lt-le (2 * d) (omega (arith, s.0)) (omega (arith, s.1))

-- a count is singled out by its sign and its size
is_from : (r : Rounding) (num : ℤ) (den : ℕ) (q : ℤ) → q ≡ signed (negative num) (nat_abs q) → Size r (nat_abs num) den (nat_abs q) → Is r num den q
unfolding Size
is_from Cut num den q e s = record { sign = e; low = s.0; high = s.1 }
is_from HalfAdjust num den q e s = record { sign = e; low = s.0; high = s.1 }

is_sign : (r : Rounding) (num : ℤ) (den : ℕ) (q : ℤ) → Is r num den q → q ≡ signed (negative num) (nat_abs q)
is_sign Cut num den q i = i.sign
is_sign HalfAdjust num den q i = i.sign

is_size : (r : Rounding) (num : ℤ) (den : ℕ) (q : ℤ) → Is r num den q → Size r (nat_abs num) den (nat_abs q)
unfolding Size
is_size Cut num den q i = (i.low, i.high)
is_size HalfAdjust num den q i = (i.low, i.high)

units_is : (r : Rounding) (d : ℕ) (f : Fraction) → 0 < f.den → Is r (f.num *ℤ pos (10 ^ d)) f.den (units r d f)
units_is r d f h =
    let N = nat_abs f.num * 10 ^ d in
    let a : nat_abs (units r d f) ≡ taken r N f.den = nat_abs_signed (negative f.num) (taken r N f.den) in
    let s = negative_scaled f.num (10 ^ d) (ten_some d) in
    let n = nat_abs_scaled f.num (10 ^ d) in
    is_from r (f.num *ℤ pos (10 ^ d)) f.den (units r d f) (rw (a, s)) (rw (a, n) (size_is r N f.den h))

units_only : (r : Rounding) (d : ℕ) (f : Fraction) (q : ℤ) → 0 < f.den → Is r (f.num *ℤ pos (10 ^ d)) f.den q → q ≡ units r d f
units_only r d f q h i =
    let s = negative_scaled f.num (10 ^ d) (ten_some d) in
    let n = nat_abs_scaled f.num (10 ^ d) in
    let t = size_only r (nat_abs (f.num *ℤ pos (10 ^ d))) f.den (nat_abs q) (is_size r (f.num *ℤ pos (10 ^ d)) f.den q i) in
    is_sign r (f.num *ℤ pos (10 ^ d)) f.den q i ∙ rw (s, ← t, n) refl

pub counts_places : CountsPlaces
counts_places = record { is = units_is; only = units_only; same = units_same }
