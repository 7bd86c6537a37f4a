-- What printing and tearing off answer, and what printing leaves.
use Rattle.std.specs.Prelude.{Bool, true, false, List, [], ◌∷◌, ◌++◌, Ok, Err, Result}
use Rattle.devices.specs.declared.refusal.Refusal.{Refusal}
use Rattle.devices.specs.declared.refusal.Refusal.TheVariants.{NoRoom, NoLine}
use Rattle.devices.specs.Printed.{Printed}

-- a line is taken exactly where there is room
abbrev pub taken_with : Bool → Result (Unit {0}) Refusal
taken_with true = Ok tt
taken_with false = Err NoRoom

-- with room the line becomes the last
abbrev pub given_to : Bool → List Printed → Printed → List Printed
given_to true ps p = ps ++ p ∷ []
given_to false ps p = ps

-- the oldest line, or that there is none
abbrev pub oldest_of : List Printed → Result Printed Refusal
oldest_of [] = Err NoLine
oldest_of (p ∷ ps) = Ok p
