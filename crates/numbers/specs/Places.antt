-- What cutting and half-adjusting mean, by inequalities, and that nothing else meets them.
use Rattle.std.specs.Prelude.{◌≡◌, ℕ, ◌+◌, ◌*◌, ◌^◌, ◌<◌, ◌≤◌, ℤ, pos, ◌*ℤ◌, unsigned_abs}
use Rattle.numbers.specs.declared.kinds.Rounding.{Rounding}
use Rattle.numbers.specs.declared.kinds.Rounding.TheVariants.{Cut, HalfAdjust}
use Rattle.numbers.specs.Signs.{negative, signed}
use Rattle.numbers.specs.Exact.{Fraction, Same, units}

-- q is num over den, cut toward zero: its size is the largest that does not pass the value's
pub record IsCut (num : ℤ) (den : ℕ) (q : ℤ) : Type 0 where
  pub sign : q ≡ signed (negative num) (unsigned_abs q)
  pub low : unsigned_abs q * den ≤ unsigned_abs num
  pub high : unsigned_abs num < (unsigned_abs q + 1) * den

-- q is num over den, half-adjusted: its size is at most a half above the value's, and less than a half below it
pub record IsRounded (num : ℤ) (den : ℕ) (q : ℤ) : Type 0 where
  pub sign : q ≡ signed (negative num) (unsigned_abs q)
  pub low : 2 * unsigned_abs q * den ≤ 2 * unsigned_abs num + den
  pub high : 2 * unsigned_abs num < 2 * unsigned_abs q * den + den

-- q is num over den, taken as the rounding says
abbrev pub Is : Rounding → ℤ → ℕ → ℤ → Type 0
Is Cut = IsCut
Is HalfAdjust = IsRounded

-- the count of a decimal place is such a number, it is the only one, and it depends on the value alone
pub record CountsPlaces : Type 0 where
  pub is : (r : Rounding) (d : ℕ) (f : Fraction) → 0 < f.den → Is r (f.num *ℤ pos (10 ^ d)) f.den (units r d f)
  pub only : (r : Rounding) (d : ℕ) (f : Fraction) (q : ℤ) → 0 < f.den → Is r (f.num *ℤ pos (10 ^ d)) f.den q → q ≡ units r d f
  pub same : (r : Rounding) (d : ℕ) (f g : Fraction) → 0 < f.den → 0 < g.den → Same f g → units r d f ≡ units r d g
