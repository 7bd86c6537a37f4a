-- A line made from a number, a spacing and columns.
use Rattle.std.specs.Prelude.{ℕ, ◌+◌, cond, ◌&&◌, List, Some, None, Ok, Err, Option, Result, nat_le}
use Rattle.characters.specs.Printable.{first_unprintable}
use Rattle.devices.specs.declared.line_making.LineFault.{LineFault}
use Rattle.devices.specs.declared.line_making.LineFault.TheVariants.{Number, Spacing, Text}
use Rattle.devices.specs.Printed.{Printed}

-- a place without a character is told as a column, which counts from 1
abbrev pub or_column : Option ℕ → Printed → Result Printed LineFault
or_column None p = Ok p
or_column (Some i) p = Err (Text (i + 1))

-- the number is asked first, then the spacing, then the columns from the left
abbrev pub line_from : ℕ → ℕ → List ℕ → Result Printed LineFault
line_from n s t =
    cond (nat_le 1 n && nat_le n 256)
    (cond (nat_le 1 s && nat_le s 3) (or_column (first_unprintable t) (record { number = n; spacing = s; text = t })) (Err Spacing))
    (Err Number)
