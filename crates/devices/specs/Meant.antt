-- What a line in memory means.
use Rattle.std.specs.Prelude.{Ok, Err, Result}
use Rattle.devices.specs.declared.line.Line.{Line}
use Rattle.devices.specs.Printed.{Printed}

-- its number, its spacing and its text
abbrev pub meant : Line → Printed
meant l = record { number = l.number; spacing = l.spacing; text = l.text }

-- the same of an answer that hands a line over, or refuses
abbrev pub meant_by : {E : Type 0} → Result Line E → Result Printed E
meant_by (Ok l) = Ok (meant l)
meant_by (Err e) = Err e
