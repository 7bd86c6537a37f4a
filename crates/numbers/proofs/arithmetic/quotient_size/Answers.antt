use Rattle.std.proofs.Common.{arith}
use Rattle.numbers.proofs.Settles.{quotient_up, quotient_down}
use Rattle.numbers.proofs.arithmetic.quotient_size.Goals as goal

pub returns-then-up-down-clause-size : goal.returns-then-up-down-clause-size
returns-then-up-down-clause-size c = grind (arith, quotient_up)

pub returns-else-up-down-clause-size : goal.returns-else-up-down-clause-size
returns-else-up-down-clause-size c = grind (arith, quotient_down)
