-- The images of amounts, of n digits with d decimals among them.
use Rattle.std.specs.Prelude.{ℕ, zero, suc, ◌+◌, ◌-◌, ◌/◌, ◌%◌, Bool, true, false, cond, ◌&&◌, ◌||◌, List, [], ◌∷◌, ◌++◌, length, replicate, ℤ, Some, None, Option, ◌==◌, nat_lt, unsigned_abs}
use Rattle.images.specs.declared.edits.EditCode.{EditCode}
use Rattle.images.specs.declared.edits.SignStyle.{SignStyle}
use Rattle.images.specs.declared.edits.SignStyle.TheVariants.{Omitted, Minus}
use Rattle.images.specs.declared.edits.EditStyle.{EditStyle}
use Rattle.numbers.specs.Signs.{negative}
use Rattle.images.specs.Edits.{style_of, sign_width}

-- the last n digits of x
abbrev pub digits : ℕ → ℕ → List ℕ
digits zero x = []
digits (suc n) x = digits n (x / 10) ++ (48 + x % 10) ∷ []

-- the last digit of a negative number is overpunched: } is 0, J to R are 1 to 9
abbrev pub overpunch : Bool → ℕ → ℕ
overpunch false d = 48 + d
overpunch true d = cond (d == 0) 125 (73 + d)

-- unedited, all digits stand, and only a negative number is overpunched
abbrev pub unedited : ℕ → ℤ → List ℕ
unedited n z = digits (n - 1) (unsigned_abs z / 10) ++ overpunch (negative z) (unsigned_abs z % 10) ∷ []

-- the mark behind a digit that k others follow: a point before any decimals, and commas between thousands
abbrev pub mark : Bool → ℕ → ℕ → List ℕ
mark commas d k = cond (k == d) (cond (d == 0) [] (46 ∷ [])) (cond (commas && (nat_lt d k && (k - d) % 3 == 0)) (44 ∷ []) [])

-- digits with their marks; j more follow them
abbrev pub marked : Bool → ℕ → ℕ → List ℕ → List ℕ
marked commas d j [] = []
marked commas d j (c ∷ cs) = c ∷ (mark commas d (length cs + j) ++ marked commas d j cs)

-- all digits with their marks, and the point before them where all are decimals
abbrev pub text : Bool → ℕ → List ℕ → List ℕ
text commas d ds = mark false d (length ds) ++ marked commas d 0 ds

-- zeros and commas before the first other digit or the point are blanked; the last column stays
abbrev pub blanked : List ℕ → List ℕ
blanked [] = []
blanked (c ∷ []) = c ∷ []
blanked (c ∷ b ∷ cs) = cond (c == 48 || c == 44) (32 ∷ blanked (b ∷ cs)) (c ∷ b ∷ cs)

-- the columns of a sign
abbrev pub sign_bytes : SignStyle → Bool → List ℕ
sign_bytes Omitted negative = []
sign_bytes Minus negative = cond negative 45 32 ∷ []

-- the columns of the digits with their marks
abbrev pub text_width : Bool → ℕ → ℕ → ℕ
text_width commas n d = n + cond (d == 0) 0 1 + cond commas ((n - d - 1) / 3) 0

-- the columns of an edited image
abbrev pub edited_width : EditStyle → ℕ → ℕ → ℕ
edited_width e n d = text_width e.commas n d + sign_width e.sign

-- an edited image; a zero may be all blanks
abbrev pub edited : EditStyle → ℕ → ℕ → ℤ → List ℕ
edited e n d z = cond (e.blank_zero && unsigned_abs z == 0) (replicate (edited_width e n d) 32)
    (blanked (text e.commas d (digits n (unsigned_abs z))) ++ sign_bytes e.sign (negative z))

-- the image by an edit code, or unedited
abbrev pub image_of : Option EditCode → ℕ → ℕ → ℤ → List ℕ
image_of None n d z = unedited n z
image_of (Some c) n d z = edited (style_of c) n d z

-- its width, whatever the value
abbrev pub image_width : Option EditCode → ℕ → ℕ → ℕ
image_width None n d = n
image_width (Some c) n d = edited_width (style_of c) n d
