use Rattle.std.proofs.Common.{length}
use Rattle.hoppers.specs.LineHoppers.{line_hopper_cards}
use Rattle.deck_cases.proofs.answer_all.Given as goal

-- a card is fed
abbrev pub decreases-cards : goal.decreases-cards
decreases-cards l = length (line_hopper_cards l.hopper)
