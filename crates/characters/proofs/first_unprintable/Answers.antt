use Rattle.std.proofs.Common.{not, ◌∙◌, rules, tests}
use Rattle.std.proofs.lemmas.Iterator.{YieldsList-from_slice}
use Rattle.std.proofs.lemmas.Iterator.Adapters.{position_from-zero}
use Rattle.std.proofs.lemmas.Iterator.Search.{position_from_yields_List}
use Rattle.characters.specs.Printable.{prints}
use Rattle.characters.proofs.Places.{is_unprintable_from}
use Rattle.characters.proofs.first_unprintable.Goals as goal

pub returns : goal.returns
returns c =
    position_from_yields_List (λ b. not (prints b)) _ _ _ c.position.ensures.ran (YieldsList-from_slice c.args.bytes.now cc) (λ x b q k. search (rules, tests))
    ∙ position_from-zero (λ b. not (prints b)) c.args.bytes.now
    ∙ is_unprintable_from 0 c.args.bytes.now
