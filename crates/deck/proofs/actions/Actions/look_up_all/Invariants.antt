use Rattle.std.proofs.Common.{◌≡◌, drop}
use Rattle.rules.specs.Rules.{first}
use Rattle.deck.specs.Acted.{acted_of}
use Rattle.deck.specs.Decks.{second_sweep, acted_by}
use Rattle.deck.proofs.actions.Actions.look_up_all.Given as goal

abbrev pub invariant-loop-k : goal.invariant-loop-k
invariant-loop-k l =
    (first (drop l.k (second_sweep l.text)) ≡ first (second_sweep l.text))
    × (acted_of l.self ≡ acted_by l.text l.k)
