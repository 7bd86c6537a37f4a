-- Powers of ten.
use Rattle.std.proofs.Common.{◌≡◌, ℕ, ◌-◌, ◌*◌, ◌^◌, ◌<◌, ◌≤◌, List, map, get_or, arith, pow-add}
use Rattle.std.proofs.Math.Nat.{one-le-pow, mul-lt-mul_of_pos_right}
use Rattle.std.specs.List.{range_with_len}
use Rattle.std.proofs.lemmas.List.FromFn.{get_or-map-range_with_len}

pub ten_some : (k : ℕ) → 1 ≤ 10 ^ k
ten_some k = one-le-pow k 10 (omega arith)

-- a list that holds the powers of ten holds the k-th at k
pub ten_at : (xs : List ℕ) (n k : ℕ) → map (λ i. 10 ^ i) (range_with_len 0 n) ≡ xs → k < n → get_or xs k 0 ≡ 10 ^ k
ten_at xs n k e h = rw (← e) (get_or-map-range_with_len (λ i. 10 ^ i) 0 n k k 0 h (omega arith))

pub ten_split : (i j : ℕ) → i ≤ j → 10 ^ (j - i) * 10 ^ i ≡ 10 ^ j
ten_split i j h = grind (arith, pow-add)

-- what is made larger by i places has no more than n digits
pub ten_below : (x i n : ℕ) → x < 10 ^ (n - i) → i ≤ n → x * 10 ^ i < 10 ^ n
ten_below x i n h k = rw (← (ten_split i n k)) (mul-lt-mul_of_pos_right h (ten_some i))
