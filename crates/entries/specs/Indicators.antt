-- Indicators by number: 01 to 99 are 1 to 99, L0 to L9 are 100 to 109, LR is 110 and 1P is 111.
use Rattle.std.specs.Prelude.{ℕ, ◌+◌, ◌-◌, ◌*◌, Bool, false, cond, ◌&&◌, ◌||◌, List, drop, is_some, Some, None, Option, ◌==◌, nat_le, slice_index, slice_index_or}
use Rattle.std.specs.Option.{option_map}
use Rattle.columns.specs.declared.kinds.Class.TheVariants.{Digit}
use Rattle.columns.specs.declared.kinds.Condition.{Condition}
use Rattle.columns.specs.Classes.{is_of, within, is_blank}

-- the indicator that two columns name: none if they are blank
abbrev pub indicator_of : List ℕ → Option ℕ
indicator_of s =
    let a = slice_index_or s 0 0 in
    let b = slice_index_or s 1 0 in
    cond (a == 76 && b == 82) (Some 110)
    (cond (a == 49 && b == 80) (Some 111)
    (cond (a == 76 && is_of Digit b) (Some (100 + (b - 48)))
    (cond (is_of Digit a && is_of Digit b && nat_le 1 (10 * (a - 48) + (b - 48))) (Some (10 * (a - 48) + (b - 48)))
    None)))

-- an indicator is named, and its number lies between two others
abbrev pub among : ℕ → ℕ → Option ℕ → Bool
among low high None = false
among low high (Some i) = within low high i

-- blank, or an indicator of a range of numbers
abbrev pub is_blank_or : ℕ → ℕ → List ℕ → Bool
is_blank_or low high s = is_blank s || among low high (indicator_of s)

-- N or blank, then an indicator; a blank pair names none and has no N
abbrev pub is_condition : List ℕ → Bool
is_condition s = is_blank s || ((slice_index s 0 == 32 || slice_index s 0 == 78) && is_some (indicator_of (drop 1 s)))

abbrev pub condition_of : List ℕ → Option Condition
condition_of s = option_map (λ i. record { negated = (slice_index s 0 == 78); indicator = i }) (indicator_of (drop 1 s))
