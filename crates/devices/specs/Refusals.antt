-- The fixed number of each refusal.
use Rattle.std.specs.Prelude.{ℕ, Some, None, Option}
use Rattle.devices.specs.declared.refusal.Refusal.{Refusal}
use Rattle.devices.specs.declared.refusal.Refusal.TheVariants.{Small, NoRoom, NoLine, NoMemory}

-- want of memory has no number
abbrev pub number_of : Refusal → Option ℕ
number_of Small = Some 10
number_of NoRoom = Some 20
number_of NoLine = Some 26
number_of NoMemory = None
