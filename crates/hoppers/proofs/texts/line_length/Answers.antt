use Rattle.std.proofs.Common.{◌==◌, ◌∙◌, ap, unwrap_or, length, rules, tests}
use Rattle.std.proofs.lemmas.Iterator.{YieldsList-from_slice}
use Rattle.std.proofs.lemmas.Iterator.Search.{position_from_yields_List}
use Rattle.hoppers.proofs.Splits.{line_found}
use Rattle.hoppers.proofs.texts.line_length.Goals as goal

pub returns-clause-lines : goal.returns-clause-lines
returns-clause-lines c =
    let p = position_from_yields_List (λ b. b == 10) _ _ c.position.result c.position.ensures.ran (YieldsList-from_slice c.args.text.now cc) (λ x b q k. search (rules, tests)) in
    line_found c.args.text.now c.unwrap_or.result (c.unwrap_or.ensures ∙ ap (λ r. unwrap_or r (length c.args.text.now)) p)
