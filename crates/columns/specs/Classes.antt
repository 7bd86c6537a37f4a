-- Columns of a card, classes of bytes, and how many bytes of a class stand first.
use Rattle.std.specs.Prelude.{ℕ, suc, ◌-◌, Bool, cond, not, ◌&&◌, ◌||◌, List, [], ◌∷◌, length, take, drop, ◌==◌, nat_le}
use Rattle.characters.specs.Printable.{prints}
use Rattle.columns.specs.declared.kinds.Class.{Class}
use Rattle.columns.specs.declared.kinds.Class.TheVariants.{Blank, Digit, Letter, LetterOrDigit, Quotable, Printable}

abbrev pub within : ℕ → ℕ → ℕ → Bool
within a b x = nat_le a x && nat_le x b

-- a byte is of a class; the character 39 is the apostrophe
abbrev pub is_of : Class → ℕ → Bool
is_of Blank b = b == 32
is_of Digit b = within 48 57 b
is_of Letter b = within 65 90 b
is_of LetterOrDigit b = within 65 90 b || within 48 57 b
is_of Quotable b = prints b && not (b == 39)
is_of Printable b = prints b

-- how many bytes of a class stand first
abbrev pub run : Class → List ℕ → ℕ
run k [] = 0
run k (b ∷ s) = cond (is_of k b) (suc (run k s)) 0

-- what follows them
abbrev pub past : Class → List ℕ → List ℕ
past k s = drop (run k s) s

-- every byte is of a class
abbrev pub all_of : Class → List ℕ → Bool
all_of k s = run k s == length s

abbrev pub is_blank : List ℕ → Bool
is_blank s = all_of Blank s

-- columns a to b of a card, counted from 1
abbrev pub columns : List ℕ → ℕ → ℕ → List ℕ
columns card a b = take (b - (a - 1)) (drop (a - 1) card)
