use Rattle.std.proofs.Common.{◌≡◌, ◌+◌, ◌^◌, ◌<◌, drop}
use Rattle.numbers.specs.Reading.{read_on}
use Rattle.numbers.proofs.reading.read_digits.Given as goal

abbrev pub invariant-loop-i : goal.invariant-loop-i
invariant-loop-i l = (l.value < 10 ^ l.i) × (read_on l.value (l.first + l.i) (drop l.i l.columns) ≡ read_on 0 l.first l.columns)
