use Rattle.std.proofs.Common.{arith}
use Rattle.std.proofs.lemmas.Int.{to_z-of_z}
use Rattle.numbers.proofs.Settles.{settled_product}
use Rattle.numbers.proofs.amount.Amount.multiply.Goals as goal

pub returns-clause-count : goal.returns-clause-count
returns-clause-count c = grind (arith, to_z-of_z, settled_product)
