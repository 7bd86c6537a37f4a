-- Names and numbers in the columns of an entry.
use Rattle.std.specs.Prelude.{ℕ, ◌+◌, ◌-◌, ◌*◌, Bool, cond, not, ◌&&◌, List, [], ◌∷◌, take, nat_le, slice_index}
use Rattle.columns.specs.declared.kinds.Class.TheVariants.{Blank, Digit, Letter, LetterOrDigit}
use Rattle.columns.specs.Classes.{is_of, run, past, all_of, is_blank}

-- a letter first, up to six letters and digits, then blanks
abbrev pub is_name : List ℕ → Bool
is_name s = is_of Letter (slice_index s 0) && nat_le (run LetterOrDigit s) 6 && is_blank (past LetterOrDigit s)

-- blanks, then at least one digit, and nothing else
abbrev pub is_number : List ℕ → Bool
is_number s = not (is_blank s) && all_of Digit (past Blank s)

-- what a column counts: a digit itself, anything else 0
abbrev pub digit_of : ℕ → ℕ
digit_of b = cond (is_of Digit b) (b - 48) 0

-- the number that columns count on from v
abbrev pub count_from : ℕ → List ℕ → ℕ
count_from v [] = v
count_from v (b ∷ s) = count_from (v * 10 + digit_of b) s

-- the number in the columns of an entry, which are four at most
abbrev pub value_of : List ℕ → ℕ
value_of s = count_from 0 (take 4 s)
