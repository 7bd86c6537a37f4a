use Rattle.std.proofs.Common.{◌+◌, ◌*◌, min, length}
use Rattle.hoppers.specs.LineHoppers.{line_hopper_cards}
use Rattle.strip.specs.StripMeaning.{strip_lines}
use Rattle.report.proofs.list.Given as goal

-- a card is fed, or the lines held are written out
abbrev pub decreases-cards : goal.decreases-cards
decreases-cards l = 2 * length (line_hopper_cards l.hopper) + min 1 (length (strip_lines l.strip))
