-- The edit codes.
use Rattle.std.specs.Prelude.{ℕ, Bool, true, false, cond, Some, None, Option, ◌==◌}
use Rattle.images.specs.declared.edits.EditCode.{EditCode}
use Rattle.images.specs.declared.edits.EditCode.TheVariants.{One, Two, Three, Four, J, K, L, M}
use Rattle.images.specs.declared.edits.SignStyle.{SignStyle}
use Rattle.images.specs.declared.edits.SignStyle.TheVariants.{Omitted, Minus}
use Rattle.images.specs.declared.edits.EditStyle.{EditStyle}

-- the code that a character stands for: 1 to 4, J to M
abbrev pub code_of : ℕ → Option EditCode
code_of b =
    cond (b == 49) (Some One) (cond (b == 50) (Some Two) (cond (b == 51) (Some Three) (cond (b == 52) (Some Four)
    (cond (b == 74) (Some J) (cond (b == 75) (Some K) (cond (b == 76) (Some L) (cond (b == 77) (Some M) None)))))))

-- the character that stands for a code
abbrev pub byte_of : EditCode → ℕ
byte_of One = 49
byte_of Two = 50
byte_of Three = 51
byte_of Four = 52
byte_of J = 74
byte_of K = 75
byte_of L = 76
byte_of M = 77

-- a style by its parts
abbrev pub style : Bool → Bool → SignStyle → EditStyle
style commas blanks sign = record { commas = commas; blank_zero = blanks; sign = sign }

-- 1 and 2 have commas, 2 and 4 blank a zero, and J to M are 1 to 4 with a column for a minus
abbrev pub style_of : EditCode → EditStyle
style_of One = style true false Omitted
style_of Two = style true true Omitted
style_of Three = style false false Omitted
style_of Four = style false true Omitted
style_of J = style true false Minus
style_of K = style true true Minus
style_of L = style false false Minus
style_of M = style false true Minus

-- the columns that a sign takes
abbrev pub sign_width : SignStyle → ℕ
sign_width Omitted = 0
sign_width Minus = 1

-- whether a sign style tells a negative number from a positive one
abbrev pub tells_sign : SignStyle → Bool
tells_sign Omitted = false
tells_sign Minus = true
