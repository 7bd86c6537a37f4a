-- A whole number by its size and its sign. Zero has no sign.
use Rattle.std.specs.Prelude.{ℕ, Bool, true, false, ℤ, pos, negsuc, neg_ℤ}

-- whether a number is below zero
abbrev pub negative : ℤ → Bool
negative (pos n) = false
negative (negsuc n) = true

-- a number, or its opposite
abbrev pub turned : Bool → ℤ → ℤ
turned false z = z
turned true z = neg_ℤ z

-- the number of a size and a sign
abbrev pub signed : Bool → ℕ → ℤ
signed false n = pos n
signed true n = neg_ℤ (pos n)
