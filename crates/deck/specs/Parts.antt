-- The parts of a record type or a line: from its first up to the first of the next, or to the last of all.
use Rattle.std.specs.Prelude.{ℕ, ◌+◌, List, [], length, take, drop, Some, None, Option, unwrap_or, slice_get}
use Rattle.std.specs.Option.{option_map}
use Rattle.deck.specs.declared.kinds.Input.{Input}
use Rattle.deck.specs.declared.kinds.Output.{Output}
use Rattle.deck.specs.declared.kinds.Part.{Part}
use Rattle.deck.specs.Acted.{Acted}
use Rattle.deck.specs.Defined.{Defined}

-- by the places of both firsts among all parts; where there is no element there is no part
abbrev pub parts_of : {X : Type 0} → List X → Option ℕ → Option ℕ → List X
parts_of all None next = []
parts_of all (Some first) next = drop first (take (unwrap_or next (length all)) all)

-- the inputs of the record type at place i, and the parts of the line at place i
abbrev pub inputs_of : Defined → ℕ → List Input
inputs_of d i = parts_of d.inputs (option_map (λ t. t.first) (slice_get d.types i)) (option_map (λ t. t.first) (slice_get d.types (i + 1)))

abbrev pub outputs_of : Acted → ℕ → List Output
outputs_of a i = parts_of a.outputs (option_map (λ r. r.first) (slice_get a.records i)) (option_map (λ r. r.first) (slice_get a.records (i + 1)))

-- the bytes of a part of the deck's text
abbrev pub part_of : Part → List ℕ → List ℕ
part_of p text = take p.length (drop p.at text)
