use Rattle.std.proofs.Common.{arith}
use Rattle.entries.proofs.Counting.{count_more, small_more}
use Rattle.entries.proofs.plain.count.Goals as goal

pub loop-b-preserved : goal.loop-b-preserved
loop-b-preserved c =
    let s = count_more c.args.s.now c.loop-b.b-index c.loop-b.sum (omega arith) in
    let w = small_more c.args.v c.loop-b.sum c.loop-b.b-index c.from.result c.loop-b.invariant.0 (omega arith) in
    (w, cc)
