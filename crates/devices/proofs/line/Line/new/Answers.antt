use Rattle.std.proofs.Common.{sym, rules}
use Rattle.devices.proofs.Columns.{none_found}
use Rattle.devices.proofs.line.Line.new.Goals as goal

pub invariant_of-result : goal.invariant_of-result
invariant_of-result c = let h = none_found 0 c.args.text.now (sym c.in-None.ensures) in search rules
