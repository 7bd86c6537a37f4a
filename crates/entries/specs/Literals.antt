-- Literals: text between apostrophes, and numbers with at most one point.
use Rattle.std.specs.Prelude.{ℕ, ◌+◌, ◌-◌, Bool, cond, ◌&&◌, List, length, take, drop, ℤ, pos, neg_ℤ, Some, None, Option, ◌==◌, nat_le, slice_index, slice_range}
use Rattle.columns.specs.declared.kinds.Class.TheVariants.{Digit, Quotable}
use Rattle.columns.specs.declared.kinds.Literal.{Literal}
use Rattle.columns.specs.Classes.{run, past, is_blank, within}
use Rattle.entries.specs.Entries.{count_from}

-- the bytes from one place up to another
abbrev pub span : List ℕ → ℕ → ℕ → List ℕ
span s from to = slice_range s from to

-- what stands between a first and a last apostrophe
abbrev pub closed_by : List ℕ → Option (List ℕ)
closed_by s = cond (nat_le 1 (length s) && slice_index s (length s - 1) == 39) (Some (take (length s - 1) s)) None

abbrev pub quoted_in : List ℕ → Option (List ℕ)
quoted_in s = cond (nat_le 1 (length s) && slice_index s 0 == 39) (closed_by (span s 1 (length s))) None

-- the text of a literal: an apostrophe, bytes that are none, an apostrophe, and then blanks
abbrev pub text_of : List ℕ → Option (List ℕ)
text_of s = let end = 2 + run Quotable (drop 1 s) in cond (is_blank (drop end s)) (quoted_in (take end s)) None

abbrev pub text_length : Option (List ℕ) → ℕ
text_length None = 0
text_length (Some t) = length t

-- at least one byte stands between the apostrophes
abbrev pub is_text : List ℕ → Bool
is_text s = nat_le 1 (text_length (text_of s))

-- a number behind its minus, and what stands behind its digits and its point
abbrev pub is_minus : List ℕ → Bool
is_minus s = slice_index s 0 == 45

abbrev pub unsigned : List ℕ → List ℕ
unsigned s = cond (is_minus s) (drop 1 s) s

abbrev pub fraction : List ℕ → List ℕ
fraction s = let rest = past Digit s in cond (slice_index rest 0 == 46) (drop 1 rest) rest

-- an optional minus, 1 to 9 digits with at most one point, and then blanks
abbrev pub is_numeric : List ℕ → Bool
is_numeric s =
    let whole = unsigned s in
    let part = fraction whole in
    within 1 9 (run Digit whole + run Digit part) && is_blank (past Digit part)

abbrev pub signed : Bool → ℕ → ℤ
signed minus n = cond minus (neg_ℤ (pos n)) (pos n)

-- the digits count in order, and those behind the point are decimals
abbrev pub literal_of : List ℕ → Literal
literal_of s =
    let whole = unsigned s in
    let part = fraction whole in
    record {
      count = signed (is_minus s) (count_from (count_from 0 (take (run Digit whole) whole)) (take (run Digit part) part));
      digits = run Digit whole + run Digit part;
      decimals = run Digit part;
    }

-- the number of a numeric literal
abbrev pub numeric_of : List ℕ → Option Literal
numeric_of s = cond (is_numeric s) (Some (literal_of s)) None
