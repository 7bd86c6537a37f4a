use Rattle.images.proofs.Befores.{columns_hold, columns_stay}
use Rattle.images.proofs.Characters.{printables}
use Rattle.images.proofs.laws.columns_stand.Goals as goal

pub returns : goal.returns
returns c = record { hold = columns_hold; stay = columns_stay; characters = printables }
