use Rattle.std.proofs.Common.{length}
use Rattle.listing.proofs.listing.tear_off_all.Given as goal

abbrev pub decreases-loop : goal.decreases-loop
decreases-loop g l = length (g.P.Printer.lines l.printer)
