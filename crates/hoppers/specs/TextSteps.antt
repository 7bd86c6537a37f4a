-- What the functions that go over text hand to one another; no promise to a caller cites this.
use Rattle.std.specs.Prelude.{◌≡◌, ℕ, ◌<◌, List, [], ◌∷◌, length, Some, None, Option}
use Rattle.hoppers.specs.declared.texts.FirstLine.{FirstLine}
use Rattle.hoppers.specs.TextLines.{lines_of}

-- the first line of a text, and what is left of the text behind it
pub record Splits (text : List ℕ) (f : FirstLine) : Type 0 where
  pub lines : lines_of text ≡ f.line.now ∷ lines_of f.rest.now
  pub less : length f.rest.now < length text

-- the same, where there may be no line
abbrev pub FirstLineIs : List ℕ → Option FirstLine → Type 0
FirstLineIs text None = lines_of text ≡ []
FirstLineIs text (Some f) = Splits text f
