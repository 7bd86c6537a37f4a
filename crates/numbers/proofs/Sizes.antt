-- How large a product of counts becomes.
use Rattle.std.proofs.Common.{◌+◌, ◌^◌, ◌<◌, ◌≤◌, ℤ, ◌*ℤ◌, nat_abs, arith}
use Rattle.std.proofs.lemmas.Int.{unsigned_abs-mul}
use Rattle.numbers.specs.Limits.{widest}

-- a factor below 10 ^ widest, and one that does not pass it
pub small_product : (a b : ℤ) → nat_abs a < 10 ^ widest → nat_abs b ≤ 10 ^ widest → nat_abs (a *ℤ b) < 10 ^ (widest + widest)
small_product a b h k = grind (arith, unsigned_abs-mul)
