-- The lines that are written on a strip: those that keep the bounds of every line.
use Rattle.std.specs.Prelude.{Bool, true, ◌&&◌, List, [], ◌∷◌, length, ◌==◌, nat_le}
use Rattle.characters.specs.Printable.{printable}
use Rattle.devices.specs.Printed.{Printed}

-- a number 1 to 256, a spacing 1 to 3, and 132 characters
abbrev pub good : Printed → Bool
good p = nat_le 1 p.number && nat_le p.number 256 && nat_le 1 p.spacing && nat_le p.spacing 3 && length p.text == 132 && printable p.text

-- each of the lines is such a line
abbrev pub all_good : List Printed → Bool
all_good [] = true
all_good (p ∷ ps) = good p && all_good ps
