use Rattle.std.proofs.Common.{arith}
use Rattle.std.proofs.lemmas.Int.{to_z-of_z}
use Rattle.numbers.proofs.Settles.{settled_sum}
use Rattle.numbers.proofs.amount.Amount.add.Goals as goal

pub returns-clause-count : goal.returns-clause-count
returns-clause-count c = grind (arith, to_z-of_z, settled_sum)
