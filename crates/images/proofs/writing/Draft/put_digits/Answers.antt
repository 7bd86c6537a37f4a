use Rattle.std.proofs.Common.{refl, arith}
use Rattle.images.proofs.Putting.{left_all, puts_room, puts_more}
use Rattle.images.proofs.writing.Draft.put_digits.Goals as goal

pub loop-k-init : goal.loop-k-init
loop-k-init c = rw (left_all c.args.marks.commas c.args.marks.decimals c.args.digits c.args.size) (record { room = c.requires; all = refl })

pub put_mark-requires : goal.put_mark-requires
put_mark-requires c = omega (arith, puts_room c.args.marks.commas c.args.marks.decimals c.args.digits c.loop-k.k c.loop-k.rest c.loop-k-test.true c.loop-k.invariant)

pub put-requires : goal.put-requires
put-requires c = rw c.put_mark.ensures (omega (arith, puts_room c.args.marks.commas c.args.marks.decimals c.args.digits c.loop-k.k c.loop-k.rest c.loop-k-test.true c.loop-k.invariant))

pub loop-k-preserved : goal.loop-k-preserved
loop-k-preserved c = rw (c.put.ensures, c.put_mark.ensures) (puts_more c.args.marks.commas c.args.marks.decimals c.args.digits c.loop-k.k c.loop-k.rest c.loop-k.self c.loop-k-test.true c.loop-k.invariant)
