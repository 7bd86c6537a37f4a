use Rattle.std.proofs.Common.{◌^◌, ◌<◌, ◌≤◌, length, rules}
use Rattle.entries.proofs.Counting.{narrow}
use Rattle.entries.proofs.literals.literal.Goals as goal

pub with_sign-requires : goal.with_sign-requires
with_sign-requires c =
    let low : c.count.result < 10 ^ 9 = search rules in
    let few : length c.front-2.result.now ≤ 9 = search rules in
    narrow c.count.result c.count-size.result (length c.front-2.result.now) low c.count-size.ensures.small few
