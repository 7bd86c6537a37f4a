-- What the strip's own functions hand to one another; no promise to a caller cites this.
use Rattle.std.specs.Prelude.{◌≡◌, ℕ, ◌+◌, ◌≤◌, true, List, [], ◌∷◌, ◌++◌, length, drop, Some, None, Option, vec_items, vec_len, vec_capacity}
use Rattle.std.specs.Global.{Vec}
use Rattle.strip.specs.declared.Strip.{Strip}
use Rattle.strip.specs.declared.reading.Oldest.{Oldest}
use Rattle.devices.specs.Meant.{meant}
use Rattle.strip.specs.GoodLines.{all_good}
use Rattle.strip.specs.Strips.{strips}
use Rattle.strip.specs.StripMeaning.{strip_rest, strip_lines, strip_size, strip_used, used_after}
use Rattle.strip.specs.StripReading.{lines_in}

-- bytes are written behind others, and no room is lost
pub record Adds (was : Vec ℕ) (bytes : List ℕ) (is : Vec ℕ) : Type 0 where
  pub items : vec_items is ≡ vec_items was ++ bytes
  pub len : vec_len is ≡ vec_len was + length bytes
  pub capacity : vec_capacity was ≤ vec_capacity is

-- the first n bytes are whole lines, and the others are as a strip keeps its bytes
pub record Passes (bs : List ℕ) (n : ℕ) : Type 0 where
  pub within : n ≤ length bs
  pub good : all_good (lines_in (drop n bs)) ≡ true
  pub written : strips (lines_in (drop n bs)) ≡ drop n bs

-- the oldest line on the bytes, which takes the first `length` of them
pub record First (bs : List ℕ) (o : Oldest) : Type 0 where
  pub reads : lines_in bs ≡ meant o.line ∷ lines_in (drop o.length bs)
  pub passes : Passes bs o.length

-- the oldest line, if there is one
abbrev pub Next : List ℕ → Option Oldest → Type 0
Next bs None = lines_in bs ≡ []
Next bs (Some o) = First bs o

-- the same of a strip, of which no byte is used where no line is held
abbrev pub NextOn : Strip → Option Oldest → Type 0
NextOn t None = (strip_lines t ≡ []) × (strip_used t ≡ 0)
NextOn t (Some o) = First (strip_rest t) o

-- what is left of a strip whose first n bytes were passed
pub record Passed (t : Strip) (n : ℕ) (t' : Strip) : Type 0 where
  pub lines : strip_lines t' ≡ lines_in (drop n (strip_rest t))
  pub size : strip_size t' ≡ strip_size t
  pub used : strip_used t' ≡ used_after (strip_lines t') (strip_used t)
