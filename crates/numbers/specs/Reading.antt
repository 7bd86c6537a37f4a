-- What the columns of a numeric field read.
use Rattle.std.specs.Prelude.{ℕ, ◌+◌, ◌-◌, ◌*◌, Bool, true, false, cond, ◌&&◌, List, [], ◌∷◌, length, take, ℤ, Some, None, Ok, Err, Option, Result, ◌==◌, nat_le, slice_index}
use Rattle.numbers.specs.declared.kinds.ReadError.{ReadError}
use Rattle.numbers.specs.declared.kinds.ReadError.TheVariants.{Width, Column}
use Rattle.numbers.specs.declared.kinds.Punch.{Punch}
use Rattle.numbers.specs.Signs.{signed}

-- a byte from a to b
abbrev pub within : ℕ → ℕ → ℕ → Bool
within a b c = nat_le a c && nat_le c b

-- a digit counts itself, a blank 0
abbrev pub count_of : ℕ → Option ℕ
count_of b = cond (b == 32) (Some 0) (cond (within 48 57 b) (Some (b - 48)) None)

-- a last column that counts a digit and has a sign
abbrev pub punch : Bool → ℕ → Option Punch
punch negative digit = Some (record { negative = negative; digit = digit })

-- the last column may be an overpunch: { is +0, A to I are +1 to +9, } is −0, J to R are −1 to −9
abbrev pub last_of : ℕ → Option Punch
last_of b = cond (b == 32) (punch false 0) (cond (within 48 57 b) (punch false (b - 48))
    (cond (b == 123) (punch false 0) (cond (within 65 73 b) (punch false (b - 64))
    (cond (b == 125) (punch true 0) (cond (within 74 82 b) (punch true (b - 73)) None)))))

-- what a column counts is used, and one that counts nothing is the wrong column i
abbrev pub or_at : {X Y : Type 0} → Option X → ℕ → (X → Result Y ReadError) → Result Y ReadError
or_at (Some x) i f = f x
or_at None i f = Err (Column i)

-- one reading after another, up to the first that fails
abbrev pub then : {X Y : Type 0} → Result X ReadError → (X → Result Y ReadError) → Result Y ReadError
then (Ok x) f = f x
then (Err e) f = Err e

-- columns from column i on, behind digits that count v
abbrev pub read_on : ℕ → ℕ → List ℕ → Result ℕ ReadError
read_on v i [] = Ok v
read_on v i (b ∷ bs) = or_at (count_of b) i (λ d. read_on (v * 10 + d) (i + 1) bs)

-- the last column, column i, behind digits that count v
abbrev pub read_last : ℕ → ℕ → ℕ → Result ℤ ReadError
read_last v i b = or_at (last_of b) i (λ p. Ok (signed p.negative (v * 10 + p.digit)))

-- a field's columns, of which the first is column i: the count, or the first wrong column
abbrev pub read_field : ℕ → List ℕ → Result ℤ ReadError
read_field i cols = then (read_on 0 i (take (length cols - 1) cols)) (λ v. read_last v (i + (length cols - 1)) (slice_index cols (length cols - 1)))

-- the same, where a field of n digits has to have n columns
abbrev pub read_amount : ℕ → ℕ → List ℕ → Result ℤ ReadError
read_amount n i cols = cond (length cols == n) (read_field i cols) (Err Width)

-- the number that a refused reading is told under, where there is one
abbrev pub read_number : ReadError → Option ℕ
read_number Width = None
read_number (Column i) = Some 22
