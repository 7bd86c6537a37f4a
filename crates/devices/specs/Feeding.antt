-- What feeding answers, and what it leaves.
use Rattle.std.specs.Prelude.{List, [], ◌∷◌, Some, None, Ok, Err, Option, Result}
use Rattle.devices.specs.declared.card.Card.{Card}

-- what an ending answers: no card, or the fault
abbrev pub ended_by : {F : Type 0} → Option F → Result (Option Card) F
ended_by None = Ok None
ended_by (Some f) = Err f

-- the first of the cards to come, or how they end
abbrev pub fed_of : {F : Type 0} → List Card → Option F → Result (Option Card) F
fed_of [] e = ended_by e
fed_of (c ∷ cs) e = Ok (Some c)

-- all but the first
abbrev pub rest_of : {X : Type 0} → List X → List X
rest_of [] = []
rest_of (x ∷ xs) = xs
