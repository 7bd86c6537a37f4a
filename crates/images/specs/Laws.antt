-- What the rules of this crate give together: images are read back, their width is the rule's, and a line holds what was
-- laid into it.
use Rattle.std.specs.Prelude.{◌≡◌, ℕ, ◌+◌, ◌-◌, ◌*◌, ◌^◌, ◌<◌, ◌≤◌, Bool, true, cond, ◌||◌, ◌⊎◌, List, [], ◌∷◌, length, ℤ, pos, neg_ℤ, Some, None, Ok, Option, ◌==◌, unsigned_abs}
use Rattle.characters.specs.Printable.{printable}
use Rattle.images.specs.declared.edits.EditCode.{EditCode}
use Rattle.images.specs.Edits.{byte_of, code_of, style_of, tells_sign}
use Rattle.numbers.specs.Reading.{within, read_field}
use Rattle.images.specs.Images.{unedited, image_of, image_width}
use Rattle.images.specs.Lines.{before, columns}

-- each edit code is the one that its character stands for
abbrev pub CodesReadBack : Type 0
CodesReadBack = (c : EditCode) → code_of (byte_of c) ≡ Some c

-- an unedited image reads as its amount, for every number of digits
abbrev pub ReadsBack : Type 0
ReadsBack = (n i : ℕ) (z : ℤ) → 1 ≤ n → unsigned_abs z < 10 ^ n → read_field i (unedited n z) ≡ Ok z

-- an overpunch with a minus: } and J to R
abbrev pub punched_minus : ℕ → Bool
punched_minus b = b == 125 || within 74 82 b

-- the digit under it: } is 0, J to R are 1 to 9
abbrev pub punched_digit : ℕ → ℕ
punched_digit b = cond (b == 125) 0 (b - 73)

-- the amount that columns show, behind digits that count v: their digits, negative where a minus or an overpunch ends them
abbrev pub shown_from : ℕ → List ℕ → ℤ
shown_from v [] = pos v
shown_from v (b ∷ bs) = cond (within 48 57 b) (shown_from (v * 10 + (b - 48)) bs)
    (cond (b == 45) (neg_ℤ (pos v)) (cond (punched_minus b) (neg_ℤ (pos (v * 10 + punched_digit b))) (shown_from v bs)))

-- the amount that columns show, whatever the edit code was
abbrev pub shown : List ℕ → ℤ
shown cols = shown_from 0 cols

-- an image that tells the sign: unedited, or by a code that has a column for it
abbrev pub tells : Option EditCode → Bool
tells None = true
tells (Some c) = tells_sign (style_of c).sign

-- such an image shows its amount
abbrev pub ShowsBack : Type 0
ShowsBack = (c : Option EditCode) (n d : ℕ) (z : ℤ) → tells c ≡ true → 1 ≤ n → unsigned_abs z < 10 ^ n → shown (image_of c n d z) ≡ z

-- so two amounts of a picture with one image are one amount
abbrev pub ImagesTell : Type 0
ImagesTell = (c : Option EditCode) (n d : ℕ) (z w : ℤ) → tells c ≡ true → 1 ≤ n → unsigned_abs z < 10 ^ n → unsigned_abs w < 10 ^ n → image_of c n d z ≡ image_of c n d w → z ≡ w

-- an image's width is the rule's, whatever the value
abbrev pub WidthStands : Type 0
WidthStands = (c : Option EditCode) (n d : ℕ) (z : ℤ) → 1 ≤ n → d ≤ n → length (image_of c n d z) ≡ image_width c n d

-- the columns up to p hold what was laid there
abbrev pub ColumnsHold : Type 0
ColumnsHold = (l : List ℕ) (p : ℕ) (xs : List ℕ) → length xs ≤ p → p ≤ length l → columns (before l p xs) p (length xs) ≡ xs

-- and columns that do not meet what is laid up to q stay as they were
abbrev pub ColumnsStay : Type 0
ColumnsStay = (l : List ℕ) (p w q : ℕ) (ys : List ℕ) → w ≤ p → p ≤ length l → length ys ≤ q → q ≤ length l → (p ≤ q - length ys) ⊎ (q ≤ p - w) → columns (before l q ys) p w ≡ columns l p w

-- images are characters, and a line of characters into which such are laid stays one
pub record Printables : Type 0 where
  pub image : (c : Option EditCode) (n d : ℕ) (z : ℤ) → printable (image_of c n d z) ≡ true
  pub line : (l : List ℕ) (p : ℕ) (xs : List ℕ) → printable l ≡ true → printable xs ≡ true → printable (before l p xs) ≡ true
