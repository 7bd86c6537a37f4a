-- The lines of a text, and the cards that they are.
use Rattle.std.specs.Prelude.{◌≡◌, ℕ, ◌+◌, ◌-◌, Bool, true, cond, not, ◌&&◌, List, [], ◌∷◌, ◌++◌, length, replicate, Some, None, Option, ◌==◌, nat_le}
use Rattle.devices.specs.declared.card.Card.{Card}
use Rattle.hoppers.specs.declared.line_hopper.LongLine.{LongLine}

-- bytes behind the last line end are one more line, if there are any
abbrev pub last_line : List ℕ → List (List ℕ)
last_line [] = []
last_line (b ∷ bs) = (b ∷ bs) ∷ []

-- the lines of bytes that stand behind the start of a line: byte 10 ends each, which the last may lack
abbrev pub lines_from : List ℕ → List ℕ → List (List ℕ)
lines_from start [] = last_line start
lines_from start (b ∷ bs) = cond (b == 10) (start ∷ lines_from [] bs) (lines_from (start ++ b ∷ []) bs)

-- the lines of a text
abbrev pub lines_of : List ℕ → List (List ℕ)
lines_of bs = lines_from [] bs

-- a line is blank-filled to a card
abbrev pub filled : List ℕ → List ℕ
filled l = l ++ replicate (80 - length l) 32

-- the cards of lines, up to the first that is longer than a card
abbrev pub cards_of : List (List ℕ) → List Card
cards_of [] = []
cards_of (l ∷ ls) = cond (nat_le (length l) 80) (record { columns = filled l } ∷ cards_of ls) []

-- how lines end that stand behind n others: such a long line is a fault that tells its number and its length
abbrev pub ending_from : ℕ → List (List ℕ) → Option LongLine
ending_from n [] = None
ending_from n (l ∷ ls) = cond (nat_le (length l) 80) (ending_from (n + 1) ls) (Some (record { line = n + 1; length = length l }))

-- no byte ends a line
abbrev pub no_end : List ℕ → Bool
no_end [] = true
no_end (b ∷ bs) = not (b == 10) && no_end bs

-- none of the lines has such a byte
abbrev pub all_no_end : List (List ℕ) → Bool
all_no_end [] = true
all_no_end (l ∷ ls) = no_end l && all_no_end ls

-- lines written one after another, each with its end, and behind them one more without
abbrev pub ended : List (List ℕ) → List ℕ → List ℕ
ended [] l = l
ended (k ∷ ks) l = k ++ 10 ∷ ended ks l

-- lines are read as they were written
abbrev pub LinesRead : Type 0
LinesRead = (ls : List (List ℕ)) (l : List ℕ) → all_no_end ls ≡ true → no_end l ≡ true → lines_of (ended ls l) ≡ ls ++ last_line l
