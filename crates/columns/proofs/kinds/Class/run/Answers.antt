use Rattle.std.proofs.Common.{◌≡◌, not, length, rules, tests, ap, ◌∙◌, unwrap_or}
use Rattle.std.specs.List.{position}
use Rattle.std.proofs.lemmas.Iterator.{YieldsList-from_slice}
use Rattle.std.proofs.lemmas.Iterator.Search.{position_from_yields_List}
use Rattle.columns.specs.Classes.{is_of}
use Rattle.columns.proofs.Running.{run_from_position}
use Rattle.columns.proofs.kinds.Class.run.Goals as goal

pub returns-clause-value : goal.returns-clause-value
returns-clause-value c =
    let s = c.args.s.now in
    let e : c.position.result ≡ position (λ b. not (is_of c.args.self b)) s =
    position_from_yields_List (λ b. not (is_of c.args.self b)) _ _ c.position.result c.position.ensures.ran (YieldsList-from_slice s cc) (λ x b q k. search (rules, tests)) in
    c.unwrap_or.ensures ∙ ap (λ o. unwrap_or o (length s)) e ∙ run_from_position c.args.self s
