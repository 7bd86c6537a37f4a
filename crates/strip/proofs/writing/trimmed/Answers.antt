use Rattle.std.proofs.Common.{◌-◌, ◌==◌, length, take, reverse, sym, ap, ◌∙◌, rules, tests}
use Rattle.std.proofs.lemmas.Iterator.Adapters.{YieldsList-from_rev_slice}
use Rattle.std.proofs.lemmas.Iterator.Consumers.{count_from_yields_List}
use Rattle.std.proofs.lemmas.Iterator.Search.{YieldsList-from_take_while}
use Rattle.std.proofs.lemmas.List.Folds.{length-prefix_len}
use Rattle.strip.proofs.Trims.{trimmed_is}
use Rattle.strip.proofs.writing.trimmed.Goals as goal

pub returns-clause-value : goal.returns-clause-value
returns-clause-value c =
    let bs = c.args.text.now in
    let n = count_from_yields_List c.take_while.result _ c.count-blanks.ensures.ran (YieldsList-from_take_while _ (λ b. b == 32) (YieldsList-from_rev_slice bs (cc)) c.take_while.ensures.closure c.take_while.ensures.done (λ x b q k. search (rules, tests))) ∙ length-prefix_len (λ b. b == 32) (reverse bs) in
    ap (λ k. take (length bs - k) bs) n ∙ sym (trimmed_is bs)
