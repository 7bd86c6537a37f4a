-- Exact arithmetic: values are fractions of whole numbers, and a result is a count of its last decimal place.
use Rattle.std.specs.Prelude.{◌≡◌, ℕ, ◌+◌, ◌*◌, ◌/◌, ◌^◌, cond, ℤ, pos, ◌+ℤ◌, ◌-ℤ◌, ◌*ℤ◌, Some, None, Ok, Err, Option, Result, ◌==◌, int_lt, nat_lt, unsigned_abs}
use Rattle.std.specs.declared.cmp.Ordering.TheVariants.{Less, Equal, Greater}
use Rattle.std.specs.declared.cmp.Ordering.{Ordering}
use Rattle.numbers.specs.declared.kinds.Rounding.{Rounding}
use Rattle.numbers.specs.declared.kinds.Rounding.TheVariants.{Cut, HalfAdjust}
use Rattle.numbers.specs.declared.kinds.ArithmeticError.{ArithmeticError}
use Rattle.numbers.specs.declared.kinds.ArithmeticError.TheVariants.{TooWide, ZeroDivisor, Scale}
use Rattle.numbers.specs.Limits.{widest}
use Rattle.numbers.specs.Signs.{negative, turned, signed}

-- a value, num over den
pub record Fraction : Type 0 where
  pub num : ℤ
  pub den : ℕ

-- a count z of the d-th decimal place
abbrev pub exact : ℤ → ℕ → Fraction
exact z d = record { num = z; den = 10 ^ d }

-- the sum
abbrev pub plus : Fraction → Fraction → Fraction
plus f g = record { num = f.num *ℤ pos g.den +ℤ g.num *ℤ pos f.den; den = f.den * g.den }

-- the difference
abbrev pub minus : Fraction → Fraction → Fraction
minus f g = record { num = f.num *ℤ pos g.den -ℤ g.num *ℤ pos f.den; den = f.den * g.den }

-- the product
abbrev pub times : Fraction → Fraction → Fraction
times f g = record { num = f.num *ℤ g.num; den = f.den * g.den }

-- f divided by a g that is not 0; the sign of g goes to the numerator, since a denominator has none
abbrev pub over : Fraction → Fraction → Fraction
over f g = record { num = turned (negative g.num) (f.num *ℤ pos g.den); den = f.den * unsigned_abs g.num }

-- two fractions of one value
abbrev pub Same : Fraction → Fraction → Type 0
Same f g = f.num *ℤ pos g.den ≡ g.num *ℤ pos f.den

-- n over d as a whole number: cut, or rounded with halves up
abbrev pub taken : Rounding → ℕ → ℕ → ℕ
taken Cut n d = n / d
taken HalfAdjust n d = (2 * n + d) / (2 * d)

-- a value as a count of the d-th decimal place: by its size, so toward zero, or with halves away from zero
abbrev pub units : Rounding → ℕ → Fraction → ℤ
units r d f = signed (negative f.num) (taken r (unsigned_abs f.num * 10 ^ d) f.den)

-- a count that is stored in n digits, unless it is too wide
abbrev pub stored : ℕ → ℤ → Result ℤ ArithmeticError
stored n z = cond (nat_lt (unsigned_abs z) (10 ^ n)) (Ok z) (Err TooWide)

-- the result of a value in n digits, d of them decimals
abbrev pub settled : Rounding → ℕ → ℕ → Fraction → Result ℤ ArithmeticError
settled r n d f = stored n (units r d f)

-- a division: first its scale, then its divisor, then its width is judged. The amounts are z with c decimals and w with e
abbrev pub divided : Rounding → ℕ → ℕ → ℤ → ℕ → ℤ → ℕ → Result ℤ ArithmeticError
divided r n d z c w e = cond (nat_lt (c + widest) (d + e)) (Err Scale) (cond (unsigned_abs w == 0) (Err ZeroDivisor) (settled r n d (over (exact z c) (exact w e))))

-- two whole numbers by their order
abbrev pub order : ℤ → ℤ → Ordering
order a b = cond (int_lt a b) Less (cond (int_lt b a) Greater Equal)

-- two values by their order
abbrev pub compared : Fraction → Fraction → Ordering
compared f g = order (f.num *ℤ pos g.den) (g.num *ℤ pos f.den)

-- the number that a refusal is told under, where there is one
abbrev pub arithmetic_number : ArithmeticError → Option ℕ
arithmetic_number TooWide = Some 24
arithmetic_number ZeroDivisor = Some 25
arithmetic_number Scale = None
