use Rattle.std.proofs.Common.{arith}
use Rattle.std.proofs.Math.Nat.{pow-le-pow_right}
use Rattle.numbers.proofs.amount.Amount.zero.Goals as goal

pub invariant_of-result : goal.invariant_of-result
invariant_of-result c = record { fits = omega (arith, pow-le-pow_right {n = 10} (omega arith) c.args.picture.some) }
