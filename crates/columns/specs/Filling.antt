-- Bytes in columns.
use Rattle.std.specs.Prelude.{ℕ, ◌-◌, List, ◌++◌, length, take, replicate}

-- the first n bytes, and blanks behind them where there are fewer
abbrev pub blank_filled : ℕ → List ℕ → List ℕ
blank_filled n bs = take n bs ++ replicate (n - length bs) 32
