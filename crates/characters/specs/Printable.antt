-- Bytes 32 to 126 are the characters that a card or a line may hold.
use Rattle.std.specs.Prelude.{ℕ, ◌+◌, Bool, true, cond, ◌&&◌, List, [], ◌∷◌, Some, None, Option, nat_le}

abbrev pub prints : ℕ → Bool
prints b = nat_le 32 b && nat_le b 126

-- every byte is a character
abbrev pub printable : List ℕ → Bool
printable [] = true
printable (b ∷ bs) = prints b && printable bs

-- the place of the first byte that is none, where the first of the list has the number i
abbrev pub unprintable_from : ℕ → List ℕ → Option ℕ
unprintable_from i [] = None
unprintable_from i (b ∷ bs) = cond (prints b) (unprintable_from (i + 1) bs) (Some i)

abbrev pub first_unprintable : List ℕ → Option ℕ
first_unprintable bs = unprintable_from 0 bs
