use Rattle.numbers.proofs.Scales.{counts_places}
use Rattle.numbers.proofs.laws.roundings_stand.Goals as goal

pub returns : goal.returns
returns c = counts_places
