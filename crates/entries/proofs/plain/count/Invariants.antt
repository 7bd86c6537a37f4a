use Rattle.std.proofs.Common.{◌≡◌, ◌+◌, ◌*◌, ◌^◌, ◌<◌, drop}
use Rattle.entries.specs.Entries.{count_from}
use Rattle.entries.proofs.plain.count.Given as goal

abbrev pub invariant-loop-b : goal.invariant-loop-b
invariant-loop-b l = (l.sum < (l.v + 1) * 10 ^ l.b-index) × (count_from l.sum (drop l.b-index l.s) ≡ count_from l.v l.s)
