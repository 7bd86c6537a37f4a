use Rattle.std.proofs.Common.{refl, ◌∙◌, arith}
use Rattle.std.proofs.lemmas.Bool.Decides.{nat_tests}
use Rattle.strip.proofs.Cuts.{torn}
use Rattle.strip.proofs.reading.oldest_line.Goals as goal

pub returns : goal.returns
returns c =
    let e = c.line_length-length.ensures in
    let t = torn c.args.bytes.now c.line_length-length.result c.requires.good c.requires.written e.within (e.lines (grind (arith, nat_tests))) in
    record { reads = t.reads ∙ rw c.read_line.ensures refl; passes = t.passes }
