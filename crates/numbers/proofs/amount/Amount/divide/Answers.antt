use Rattle.std.proofs.Common.{arith}
use Rattle.std.proofs.lemmas.Bool.Decides.{nat_tests}
use Rattle.numbers.proofs.Settles.{settled_quotient}
use Rattle.numbers.proofs.amount.Amount.divide.Goals as goal

pub returns-clause-count : goal.returns-clause-count
returns-clause-count c = grind (arith, nat_tests, settled_quotient)
