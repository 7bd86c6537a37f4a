-- The steps of counting digits.
use Rattle.std.proofs.Common.{◌≡◌, ℕ, ◌+◌, ◌*◌, ◌^◌, ◌<◌, ◌≤◌, List, length, get_or, drop, refl, mul_assoc, mul-le-mul, pow-suc, add-one, arith}
use native.Mathlib.Nat.{pow-le-pow_right}
use Rattle.std.proofs.lemmas.List.{at_drop_more}
use Rattle.entries.specs.Entries.{count_from, digit_of}

pub count_more : (s : List ℕ) (i v : ℕ) → i < length s → count_from v (drop i s) ≡ count_from (v * 10 + digit_of (get_or s i 0)) (drop (i + 1) s)
count_more s i v h = at_drop_more (count_from v) s i 0 h

-- i digits behind v stay below (v + 1) * 10 ^ i
pub small_more : (v sum i d : ℕ) → sum < (v + 1) * 10 ^ i → d ≤ 9 → sum * 10 + d < (v + 1) * 10 ^ (i + 1)
small_more v sum i d h k =
    let e : (v + 1) * 10 ^ (i + 1) ≡ ((v + 1) * 10 ^ i) * 10 = rw (add-one i, pow-suc) (rw mul_assoc refl) in
    rw e (omega arith)

-- and nine digits behind a number below 10 ^ 9 fit 64 bits with room for one more
pub narrow : (v sum i : ℕ) → v < 10 ^ 9 → sum < (v + 1) * 10 ^ i → i ≤ 9 → sum < 10 ^ 18
narrow v sum i hv h k =
    let p : 10 ^ i ≤ 10 ^ 9 = pow-le-pow_right {n = 10} (omega arith) k in
    let w : v + 1 ≤ 10 ^ 9 = omega arith in
    let m : (v + 1) * 10 ^ i ≤ 10 ^ 9 * 10 ^ 9 = mul-le-mul w p in
    omega arith
