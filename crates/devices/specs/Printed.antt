-- A line as a printer means it.
use Rattle.std.specs.Prelude.{ℕ, List}

-- the number of the output record card that made the line, the spacing that follows it, and its columns
pub record Printed : Type 0 where
  pub number : ℕ
  pub spacing : ℕ
  pub text : List ℕ
