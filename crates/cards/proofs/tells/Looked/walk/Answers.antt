use Rattle.std.proofs.Common.{rules}
use Rattle.cards.specs.declared.kinds.Rule.{Rule}
use Rattle.cards.specs.declared.kinds.What.TheVariants.{Free}
use Rattle.cards.proofs.Walking.{first_from_run}
use Rattle.cards.proofs.tells.Looked.walk.Goals as goal

pub returns : goal.returns
returns c =
    let d : Rule = record { from = 0; to = 0; what = Free } in
    first_from_run c.args.self.now.highest c.args.self.now.card.now.columns c.args.rules.now d c.find_map.result c.find_map.ensures.runs (λ p e. rw c.iter.ensures.rest at (rw e at (c.iter.ensures.runs p p.seen))) (λ x o q k. search rules)
