use Rattle.images.specs.Images.{text, digits}
use Rattle.images.specs.Drafts.{fronted}
use Rattle.images.proofs.Putting.{Puts, left}
use Rattle.images.proofs.writing.Draft.put_digits.Given as goal

abbrev pub invariant-loop-k : goal.invariant-loop-k
invariant-loop-k l = Puts (fronted (text l.marks.commas l.marks.decimals (digits l.digits l.size)) l.initial.self) (left l.marks.commas l.marks.decimals l.digits l.k l.rest) l.self
