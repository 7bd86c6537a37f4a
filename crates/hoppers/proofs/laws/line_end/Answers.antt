use Rattle.hoppers.proofs.Splits.{lines_read}
use Rattle.hoppers.proofs.laws.line_end.Goals as goal

pub returns-clause-reads : goal.returns-clause-reads
returns-clause-reads c = lines_read
