use Rattle.std.proofs.Common.{refl, arith}
use Rattle.numbers.proofs.Tens.{ten_at}
use Rattle.numbers.proofs.powers.ten.Goals as goal

pub returns-clause-value : goal.returns-clause-value
returns-clause-value c = ten_at _ 19 c.args.k refl (omega arith)
