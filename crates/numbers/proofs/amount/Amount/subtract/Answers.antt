use Rattle.std.proofs.Common.{arith}
use Rattle.numbers.proofs.Settles.{settled_difference}
use Rattle.numbers.proofs.amount.Amount.subtract.Goals as goal

pub returns-clause-count : goal.returns-clause-count
returns-clause-count c = grind (arith, settled_difference)
