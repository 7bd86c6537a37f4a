-- The limits of an image and of a line.
use Rattle.std.specs.Prelude.{ℕ}

-- the columns that are kept for an image
abbrev pub image_columns : ℕ
image_columns = 16

-- the columns of a line
abbrev pub line_columns : ℕ
line_columns = 132
