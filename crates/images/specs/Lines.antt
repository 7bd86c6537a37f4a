-- Columns of a line, and what laying an image into them does.
use Rattle.std.specs.Prelude.{ℕ, ◌-◌, cond, ◌||◌, List, ◌++◌, length, take, drop, Ok, Err, Result, ◌==◌, nat_lt}
use Rattle.images.specs.declared.laying.LayError.{LayError}
use Rattle.images.specs.declared.laying.LayError.TheVariants.{End, Start}
use Rattle.images.specs.declared.image.Image.{Image}
use Rattle.images.specs.Limits.{line_columns}

-- the columns of an image
abbrev pub image_bytes : Image → List ℕ
image_bytes i = take i.width i.bytes

-- a line whose columns up to `end` hold xs, and all others what they held
abbrev pub before : List ℕ → ℕ → List ℕ → List ℕ
before l end xs = take (end - length xs) l ++ (xs ++ drop end l)

-- the w columns up to `end`
abbrev pub columns : List ℕ → ℕ → ℕ → List ℕ
columns l end w = take w (drop (end - w) l)

-- an end is a column of the line, and an image of w columns starts no further left than column 1
abbrev pub lay_answer : ℕ → ℕ → Result Unit LayError
lay_answer end w = cond (end == 0 || nat_lt line_columns end) (Err End) (cond (nat_lt end w) (Err Start) (Ok tt))

-- an image is laid, or the line stays as it was
abbrev pub laid : List ℕ → ℕ → List ℕ → List ℕ
laid l end xs = cond (end == 0 || nat_lt line_columns end) l (cond (nat_lt end (length xs)) l (before l end xs))
