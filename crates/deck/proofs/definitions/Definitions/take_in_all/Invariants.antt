use Rattle.std.proofs.Common.{◌≡◌, drop}
use Rattle.rules.specs.Rules.{first}
use Rattle.deck.specs.Decks.{first_sweep, defined_by, seen_by}
use Rattle.deck.specs.Defined.{defined_of, before_of}
use Rattle.deck.proofs.definitions.Definitions.take_in_all.Given as goal

abbrev pub invariant-loop-k : goal.invariant-loop-k
invariant-loop-k l =
    (first (drop l.k (first_sweep l.text)) ≡ first (first_sweep l.text))
    × (defined_of l.self ≡ defined_by l.text l.k)
    × (before_of l.seen ≡ seen_by l.text l.k)
