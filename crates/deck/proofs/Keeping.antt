-- What an accepted deck keeps.
use Rattle.std.proofs.Common.{ℕ, List}
use Rattle.deck.specs.Laws.{Keeps, Accepted}
use Rattle.deck.proofs.Alike.{defined_alike}
use Rattle.deck.proofs.Apart.{types_apart, names_once, levels_once}
use Rattle.deck.proofs.Few.{few_fields, few_types}
use Rattle.deck.proofs.Ordered.{in_order}
use Rattle.deck.proofs.Resolved.{names_found}
use Rattle.deck.proofs.Together.{levels_alike}

pub keeps : (text : List ℕ) → Accepted text → Keeps text
keeps text a = record {
  few_fields = few_fields text a;
  few_types = few_types text a;
  in_order = in_order text a;
  types_apart = types_apart text a;
  names_once = names_once text a;
  levels_once = levels_once text a;
  levels_alike = levels_alike text a;
  defined_alike = defined_alike text a;
  names_found = names_found text a;
}
