use Rattle.std.proofs.Common.{refl}
use Rattle.cards.proofs.Covering.{covers}
use Rattle.cards.proofs.layouts.last_column.Goals as goal

pub returns : goal.returns
returns c = record { value = refl; covers = covers }
