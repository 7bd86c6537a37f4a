use Rattle.std.proofs.Common.{◌-◌, ◌^◌, ◌≤◌, arith}
use Rattle.std.proofs.Math.Nat.{pow-le-pow_right}
use Rattle.numbers.specs.Limits.{widest}
use Rattle.std.proofs.lemmas.Int.{to_z-of_z}
use Rattle.numbers.proofs.Tens.{ten_below}
use Rattle.numbers.proofs.Settles.{settled_down, settled_up, settled_wide}
use Rattle.numbers.proofs.arithmetic.rescaled.Goals as goal

pub returns-then-decimals-picture-clause-count : goal.returns-then-decimals-picture-clause-count
returns-then-decimals-picture-clause-count c = grind (arith, to_z-of_z, settled_down)

pub returns-then-size-ten-clause-count : goal.returns-then-size-ten-clause-count
returns-then-size-ten-clause-count c = grind (arith, to_z-of_z, settled_up)

pub returns-else-size-ten-clause-count : goal.returns-else-size-ten-clause-count
returns-else-size-ten-clause-count c = grind (arith, to_z-of_z, settled_wide)

pub store-requires-then-size-ten : goal.store-requires-then-size-ten
store-requires-then-size-ten c =
    let up = c.args.into.picture.decimals - c.args.decimals in
    let m = ten_below c.unsigned_abs-size.result up c.args.into.picture.digits (omega arith) (omega arith) in
    let w : 10 ^ c.args.into.picture.digits ≤ 10 ^ widest = pow-le-pow_right (omega arith) c.args.into.picture.few in
    rw c.ten-then-size-ten.ensures.value (omega arith)
