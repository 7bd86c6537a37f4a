use Rattle.std.proofs.Common.{◌∙◌, rules}
use Rattle.std.proofs.lemmas.Iterator.{YieldsList-from_slice}
use Rattle.std.proofs.lemmas.Iterator.Search.{position_from_yields_List}
use Rattle.rules.proofs.Found.{first_of-position}
use Rattle.rules.proofs.finding.first_equal.Goals as goal

pub returns-clause-place : goal.returns-clause-place
returns-clause-place g c =
    position_from_yields_List (λ y. g.K.PartialEq.eq (g.T.Keyed.key_of y) c.args.sought.now) _ _ _ c.position.ensures.ran (YieldsList-from_slice c.args.entries.now cc) (λ x b q k. search rules)
    ∙ first_of-position _ c.args.entries.now
