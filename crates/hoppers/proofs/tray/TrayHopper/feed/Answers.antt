use Rattle.std.proofs.Common.{rules, arith}
use Rattle.hoppers.proofs.Stacks.{cards_more, leftover_same}
use Rattle.hoppers.proofs.tray.TrayHopper.feed.Goals as goal

pub returns-in-Some : goal.returns-in-Some
returns-in-Some c =
    let bs = c.args.self.now.rest.now in
    let m = cards_more bs (omega (arith, c.in-Some.ensures.cases.2)) in
    let l = leftover_same bs (omega (arith, c.in-Some.ensures.cases.2)) in
    search rules
