-- How the lines on a strip are read again. Any bytes can be read, so that this has no exceptions; of bytes that a
-- strip wrote the law at the end says that the reading is right.
use Rattle.std.specs.Prelude.{◌≡◌, ℕ, ◌+◌, ◌-◌, ◌*◌, ◌≤◌, Bool, true, cond, List, ◌++◌, map, length, drop, replicate, ◌==◌, slice_index}
use Rattle.devices.specs.Printed.{Printed}
use Rattle.strip.specs.GoodLines.{good, all_good}
use Rattle.strip.specs.Strips.{rendered, strips}
use Rattle.hoppers.specs.TextLines.{lines_of}

-- how many digits stand before the first comma
abbrev pub digit_count : List ℕ → ℕ
digit_count bs = cond (slice_index bs 1 == 44) 1 (cond (slice_index bs 2 == 44) 2 3)

-- the value of a digit
abbrev pub digit_at : List ℕ → ℕ → ℕ
digit_at bs i = slice_index bs i - 48

-- the number before the first comma
abbrev pub read_number : List ℕ → ℕ
read_number bs = cond (slice_index bs 1 == 44) (digit_at bs 0) (cond (slice_index bs 2 == 44) (digit_at bs 0 * 10 + digit_at bs 1) (digit_at bs 0 * 100 + digit_at bs 1 * 10 + digit_at bs 2))

-- what stands behind that comma
abbrev pub past_number : List ℕ → List ℕ
past_number bs = drop (digit_count bs + 1) bs

-- text with its trailing blanks again
abbrev pub padded : List ℕ → List ℕ
padded bs = bs ++ replicate (132 - length bs) 32

-- the line that is written so
abbrev pub read_line : List ℕ → Printed
read_line bs = record { number = read_number bs; spacing = read_number (past_number bs); text = padded (past_number (past_number bs)) }

-- the lines that are written so
abbrev pub lines_in : List ℕ → List Printed
lines_in bs = map read_line (lines_of bs)

-- a strip whose bytes are all torn off starts at its front again: of n bytes the first f are torn off
abbrev pub anew_at : ℕ → ℕ → Bool
anew_at f n = cond (f == n) (n == 0) true

-- lines are read as they were written
abbrev pub StripReads : Type 0
StripReads = (ps : List Printed) → all_good ps ≡ true → lines_in (strips ps) ≡ ps

-- no line takes more than n bytes
abbrev pub Longest : ℕ → Type 0
Longest n = (p : Printed) → good p ≡ true → length (rendered p) ≤ n
