use Rattle.std.proofs.Common.{arith}
use Rattle.std.proofs.lemmas.Bool.Decides.{nat_tests}
use Rattle.hoppers.specs.LineHoppers.{line_hopper_cards, line_hopper_ending}
use Rattle.strip.specs.StripMeaning.{strip_lines, strip_room}
use Rattle.report.proofs.Turns.{less_to_do}
use Rattle.report.proofs.list.Goals as goal

pub cards-smaller : goal.cards-smaller
cards-smaller c =
    let h = c.cards.hopper in
    let h' = c.list_next.new.hopper in
    let p = c.cards.strip in
    let p' = c.list_next.new.printer in
    less_to_do (strip_room p) (line_hopper_cards h) (line_hopper_cards h') (line_hopper_ending h) (line_hopper_ending h') (strip_lines p) (strip_lines p')
    (strip_lines c.write_out.new.strip) c.bytes.result.now (rw c.in-Ok-NoRoom.field-0-is at c.in-Ok-NoRoom.ensures) c.bytes.ensures (λ e. let n = c.if-is_empty.ensures in grind (arith, nat_tests)) c.write_out.ensures
