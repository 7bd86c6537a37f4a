-- The results of a calculation: counts brought to the decimals of the result.
use Rattle.std.proofs.Common.{◌≡◌, ℕ, ◌+◌, ◌-◌, ◌*◌, ◌^◌, ◌<◌, ◌≤◌, Bool, ℤ, pos, ◌+ℤ◌, ◌*ℤ◌, neg_ℤ, nat_abs, Err, refl, ap, mul-le-mul_right, arith, pow-add}
use Rattle.std.proofs.lemmas.Bool.Decides.{nat_tests}
use Rattle.numbers.specs.declared.kinds.Rounding.{Rounding}
use Rattle.numbers.specs.declared.kinds.ArithmeticError.TheVariants.{TooWide}
use Rattle.numbers.specs.Signs.{negative, turned, signed}
use Rattle.numbers.specs.Exact.{exact, plus, minus, times, over, taken, Same, stored, settled}
use Rattle.std.proofs.Math.Nat.{mul-pos}
use Rattle.numbers.proofs.Tens.{ten_some, ten_split}
use Rattle.numbers.proofs.Scales.{nat_abs_scaled, negative_scaled, neg_scaled, nat_abs_signed, scaled_scaled, sum_scaled, taken_same, taken_whole, units_same}

-- a count with more decimals than the result
pub settled_down : (r : Rounding) (n d : ℕ) (z : ℤ) (k : ℕ) (b : Bool) (s t q : ℕ) → d < k → b ≡ negative z → s ≡ nat_abs z → t ≡ 10 ^ (k - d) → q ≡ taken r s t → stored n (signed b q) ≡ settled r n d (exact z k)
settled_down r n d z k b s t q h e f g i =
    let p = ten_split d k (omega arith) in
    let w : nat_abs z * 10 ^ k ≡ nat_abs z * 10 ^ d * 10 ^ (k - d) = omega (arith, ap (λ x. nat_abs z * x) p) in
    grind (arith, taken_same, ten_some)

-- a count with no more decimals than the result
up_is : (r : Rounding) (x d k : ℕ) → k ≤ d → taken r (x * 10 ^ d) (10 ^ k) ≡ x * 10 ^ (d - k)
up_is r x d k h =
    let e : x * 10 ^ d ≡ x * 10 ^ (d - k) * 10 ^ k = omega (arith, ap (λ y. x * y) (ten_split k d h)) in
    grind (arith, taken_whole, ten_some)

pub settled_up : (r : Rounding) (n d : ℕ) (z : ℤ) (k : ℕ) (b : Bool) (s t : ℕ) → k ≤ d → b ≡ negative z → s ≡ nat_abs z → t ≡ 10 ^ (d - k) → stored n (signed b (s * t)) ≡ settled r n d (exact z k)
settled_up r n d z k b s t h e f g = grind (arith, up_is)

-- the same, where that is too wide
pub settled_wide : (r : Rounding) (n d : ℕ) (z : ℤ) (k : ℕ) (s t : ℕ) → k ≤ d → d ≤ n → s ≡ nat_abs z → t ≡ 10 ^ (n - (d - k)) → t ≤ s → Err TooWide ≡ settled r n d (exact z k)
settled_wide r n d z k s t h l f g w =
    let p = ten_split (d - k) n (omega arith) in
    let m : 10 ^ (n - (d - k)) * 10 ^ (d - k) ≤ nat_abs z * 10 ^ (d - k) = mul-le-mul_right (10 ^ (d - k)) (omega arith) in
    grind (arith, nat_tests, up_is, nat_abs_signed)

-- quotients at the decimals of the result
pub quotient_up : (r : Rounding) (x y e d c : ℕ) → 0 < y → c ≤ d + e → taken r (x * 10 ^ (d + e - c)) y ≡ taken r (x * 10 ^ e * 10 ^ d) (10 ^ c * y)
quotient_up r x y e d c h k =
    let p : 10 ^ (d + e - c) * 10 ^ c ≡ 10 ^ d * 10 ^ e = grind (arith, ten_split, pow-add) in
    let w : x * 10 ^ (d + e - c) * (10 ^ c * y) ≡ x * 10 ^ e * 10 ^ d * y = omega (arith, ap (λ t. x * t * y) p) in
    grind (arith, taken_same, mul-pos, ten_some)

pub quotient_down : (r : Rounding) (x y e d c : ℕ) → 0 < y → d + e ≤ c → taken r x (y * 10 ^ (c - (d + e))) ≡ taken r (x * 10 ^ e * 10 ^ d) (10 ^ c * y)
quotient_down r x y e d c h k = grind (arith, taken_same, ten_some, ten_split, pow-add, mul-pos)

-- two counts brought to the same decimals m are added
aligned : (a b : ℤ) (c e m : ℕ) → c ≤ m → e ≤ m → Same (exact (a *ℤ pos (10 ^ (m - c)) +ℤ b *ℤ pos (10 ^ (m - e))) m) (plus (exact a c) (exact b e))
aligned a b c e m h k =
    let p = ten_split c m h in
    let q = ten_split e m k in
    let u : 10 ^ (m - c) * (10 ^ c * 10 ^ e) ≡ 10 ^ e * 10 ^ m = omega (arith, ap (λ t. t * 10 ^ e) p) in
    let v : 10 ^ (m - e) * (10 ^ c * 10 ^ e) ≡ 10 ^ c * 10 ^ m = omega (arith, ap (λ t. t * 10 ^ c) q) in
    let x : a *ℤ pos (10 ^ (m - c)) *ℤ pos (10 ^ c * 10 ^ e) ≡ a *ℤ pos (10 ^ e) *ℤ pos (10 ^ m) = rw (scaled_scaled, scaled_scaled, u) refl in
    let y : b *ℤ pos (10 ^ (m - e)) *ℤ pos (10 ^ c * 10 ^ e) ≡ b *ℤ pos (10 ^ c) *ℤ pos (10 ^ m) = rw (scaled_scaled, scaled_scaled, v) refl in
    rw (sum_scaled, sum_scaled, x, y) refl

pub settled_sum : (r : Rounding) (n d : ℕ) (a b : ℤ) (c e m : ℕ) (x y : ℤ) → c ≤ m → e ≤ m → x ≡ a *ℤ pos (10 ^ (m - c)) → y ≡ b *ℤ pos (10 ^ (m - e)) → settled r n d (exact (x +ℤ y) m) ≡ settled r n d (plus (exact a c) (exact b e))
settled_sum r n d a b c e m x y h k f g =
    rw (f, g) (ap (stored n) (units_same r d (exact (a *ℤ pos (10 ^ (m - c)) +ℤ b *ℤ pos (10 ^ (m - e))) m) (plus (exact a c) (exact b e)) (ten_some m) (mul-pos (ten_some c) (ten_some e)) (aligned a b c e m h k)))

-- a difference is a sum with the opposite
pub settled_difference : (r : Rounding) (n d : ℕ) (a b : ℤ) (c e : ℕ) (x : ℤ) (f : ℕ) → x ≡ neg_ℤ b → f ≡ e → settled r n d (plus (exact a c) (exact x f)) ≡ settled r n d (minus (exact a c) (exact b e))
settled_difference r n d a b c e x f h k = grind (arith, neg_scaled)

pub settled_product : (r : Rounding) (n d : ℕ) (a b : ℤ) (c e : ℕ) (p : ℤ) → p ≡ a *ℤ b → settled r n d (exact p (c + e)) ≡ settled r n d (times (exact a c) (exact b e))
settled_product r n d a b c e p h = grind (arith, pow-add)

turned_scaled : (s : Bool) (z : ℤ) (n : ℕ) → turned s (z *ℤ pos n) ≡ turned s z *ℤ pos n
turned_scaled s z n = grind arith

pub settled_quotient : (r : Rounding) (n d : ℕ) (a b : ℤ) (c e : ℕ) (x : ℤ) (q : ℕ) → x ≡ turned (negative b) a → q ≡ taken r (nat_abs x * 10 ^ e * 10 ^ d) (10 ^ c * nat_abs b) → stored n (signed (negative x) q) ≡ settled r n d (over (exact a c) (exact b e))
settled_quotient r n d a b c e x q f g = grind (arith, turned_scaled, negative_scaled, nat_abs_scaled, ten_some)
