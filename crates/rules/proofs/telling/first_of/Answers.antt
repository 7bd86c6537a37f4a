use Rattle.std.proofs.Common.{sym, ◌∙◌, is_some, ap, rules}
use Rattle.std.specs.Option.{option_flatten}
use Rattle.std.proofs.lemmas.Iterator.{YieldsList-from_slice}
use Rattle.std.proofs.lemmas.Iterator.Adapters.{option_map_id}
use Rattle.std.proofs.lemmas.Iterator.Consumers.{YieldsList-from_copied}
use Rattle.std.proofs.lemmas.Iterator.Search.{find_from_yields_List}
use Rattle.rules.proofs.Firsts.{first_found}
use Rattle.rules.proofs.telling.first_of.Goals as goal

pub returns : goal.returns
returns c =
    let found = find_from_yields_List is_some _ _ _ c.find.ensures.ran (YieldsList-from_copied (YieldsList-from_slice c.args.rules.now cc)) (λ x b q k. search rules) in
    c.flatten.ensures ∙ ap option_flatten (sym (option_map_id c.find.result) ∙ found) ∙ first_found c.args.rules.now
