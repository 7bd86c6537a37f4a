use Rattle.std.proofs.Common.{refl}
use Rattle.strip.proofs.Bodies.{longest}
use Rattle.strip.proofs.Cuts.{strip_reads}
use Rattle.strip.proofs.laws.longest_line.Goals as goal

pub returns : goal.returns
returns c = record { value = refl; longest = longest; reads = strip_reads }
