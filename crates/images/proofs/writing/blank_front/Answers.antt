use Rattle.images.proofs.Fronts.{blanked_last}
use Rattle.images.proofs.writing.blank_front.Goals as goal

pub returns-in-Some : goal.returns-in-Some
returns-in-Some c = rw (c.blank_fills.ensures, c.in-Some.ensures.cases.0) (blanked_last c.in-Some.front.now c.in-Some._last.now)
