-- The number of each refusal of a deck.
use Rattle.std.specs.Prelude.{ℕ}
use Rattle.rules.specs.declared.refusal.Refusal.{Refusal}
use Rattle.rules.specs.declared.refusal.Refusal.TheVariants.{CutDeck, Order, Punch, Unknown, Double, Kind, TableFull}

abbrev pub number_of : Refusal → ℕ
number_of CutDeck = 1
number_of Order = 2
number_of Punch = 3
number_of Unknown = 4
number_of Double = 5
number_of Kind = 6
number_of TableFull = 7
