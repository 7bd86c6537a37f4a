-- What a line hopper means.
use Rattle.std.specs.Prelude.{◌≡◌, ℕ, List, Option}
use Rattle.devices.specs.declared.card.Card.{Card}
use Rattle.hoppers.specs.declared.line_hopper.LineHopper.{LineHopper}
use Rattle.hoppers.specs.declared.line_hopper.LongLine.{LongLine}
use Rattle.hoppers.specs.TextLines.{lines_of, cards_of, ending_from}

-- the cards that it has to come
abbrev pub line_hopper_cards : LineHopper → List Card
line_hopper_cards t = cards_of (lines_of t.rest.now)

-- how they end
abbrev pub line_hopper_ending : LineHopper → Option LongLine
line_hopper_ending t = ending_from t.line (lines_of t.rest.now)

-- a new line hopper has all lines of the text to come, of which none was fed
pub record LineHopperMade (text : List ℕ) (t : LineHopper) : Type 0 where
  pub cards : line_hopper_cards t ≡ cards_of (lines_of text)
  pub ending : line_hopper_ending t ≡ ending_from 0 (lines_of text)
