-- The letters that kinds of lines are punched by.
use Rattle.std.specs.Prelude.{ℕ, List, cond, Some, None, Option, ◌==◌, codes}
use Rattle.cards.specs.declared.kinds.LineKind.{LineKind}
use Rattle.cards.specs.declared.kinds.LineKind.TheVariants.{Heading, Detail, Total}

-- H for a heading, D for a detail line, T for a total line
abbrev pub letter_of : LineKind → List ℕ
letter_of Heading = codes "H"
letter_of Detail = codes "D"
letter_of Total = codes "T"

-- the kind of line that a letter stands for: H 72, D 68, T 84
abbrev pub line_kind_by : ℕ → Option LineKind
line_kind_by b = cond (b == 72) (Some Heading) (cond (b == 68) (Some Detail) (cond (b == 84) (Some Total) None))
