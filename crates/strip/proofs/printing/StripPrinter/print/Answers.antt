use Rattle.std.proofs.Common.{vec_items, arith}
use Rattle.strip.proofs.Cuts.{line_grown}
use Rattle.strip.proofs.printing.StripPrinter.print.Goals as goal

pub invariant_of-self : goal.invariant_of-self
invariant_of-self c =
    let s = c.args.self.now in
    let g = line_grown s (vec_items c.add_line.new.held) c.args.line.now c.add_line.ensures.items in
    record { large = s.large; reserved = omega (arith, s.reserved, c.add_line.ensures.capacity); front = g.front; anew = g.anew; good = g.good; written = g.written }

pub returns-clause-after : goal.returns-clause-after
returns-clause-after c =
    let s = c.args.self.now in
    let g = line_grown s (vec_items c.add_line.new.held) c.args.line.now c.add_line.ensures.items in
    let b = c.if-not-has_room.ensures in
    rw (← b) g.lines
