use Rattle.images.proofs.Widths.{width_stands}
use Rattle.images.proofs.laws.widths_stand.Goals as goal

pub returns : goal.returns
returns c = width_stands
