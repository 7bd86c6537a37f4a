-- Images are characters, and laying keeps a line of characters so.
use Rattle.std.proofs.Common.{◌≡◌, ℕ, zero, suc, ◌+◌, ◌-◌, ◌/◌, ◌%◌, ◌<◌, Bool, true, false, cond, ◌||◌, eqb, List, [], ◌∷◌, ◌++◌, length, take, drop, replicate, ℤ, nat_abs, Some, None, Option, refl, arith}
use Rattle.std.proofs.lemmas.Bool.Decides.{nat_tests}
use Rattle.characters.specs.Printable.{prints, printable}
use Rattle.images.specs.declared.edits.EditCode.{EditCode}
use Rattle.images.specs.declared.edits.SignStyle.{SignStyle}
use Rattle.images.specs.declared.edits.SignStyle.TheVariants.{Omitted, Minus}
use Rattle.images.specs.declared.edits.EditStyle.{EditStyle}
use Rattle.numbers.specs.Signs.{negative}
use Rattle.images.specs.Edits.{style_of}
use Rattle.images.specs.Images.{digits, unedited, overpunch, mark, marked, text, blanked, sign_bytes, edited_width, edited, image_of}
use Rattle.images.specs.Laws.{Printables}
use Rattle.images.proofs.Cases.{mark_is, edited_is}

head : (b : ℕ) (bs : List ℕ) → printable (b ∷ bs) ≡ true → prints b ≡ true
head b bs h = grind (arith, nat_tests)

tail : (b : ℕ) (bs : List ℕ) → printable (b ∷ bs) ≡ true → printable bs ≡ true
tail b bs h = grind (arith, nat_tests)

cons : (b : ℕ) (bs : List ℕ) → prints b ≡ true → printable bs ≡ true → printable (b ∷ bs) ≡ true
cons b bs h k = rw (h, k) refl

join : (xs ys : List ℕ) → printable xs ≡ true → printable ys ≡ true → printable (xs ++ ys) ≡ true
join [] ys h k = k
join (x ∷ xs) ys h k = cons x (xs ++ ys) (head x xs h) (join xs ys (tail x xs h) k)

taken : (n : ℕ) (xs : List ℕ) → printable xs ≡ true → printable (take n xs) ≡ true
taken zero xs h = refl
taken (suc n) [] h = refl
taken (suc n) (x ∷ xs) h = cons x (take n xs) (head x xs h) (taken n xs (tail x xs h))

dropped : (n : ℕ) (xs : List ℕ) → printable xs ≡ true → printable (drop n xs) ≡ true
dropped zero xs h = h
dropped (suc n) [] h = refl
dropped (suc n) (x ∷ xs) h = dropped n xs (tail x xs h)

of_digits : (n x : ℕ) → printable (digits n x) ≡ true
of_digits zero x = refl
of_digits (suc n) x = join (digits n (x / 10)) ((48 + x % 10) ∷ []) (of_digits n (x / 10)) (cons (48 + x % 10) [] (grind (arith, nat_tests)) refl)

of_mark : (commas : Bool) (d k : ℕ) → printable (mark commas d k) ≡ true
of_mark commas d k = mark_is (λ m. printable m ≡ true) commas d k refl refl refl

of_marked : (commas : Bool) (d j : ℕ) (cs : List ℕ) → printable cs ≡ true → printable (marked commas d j cs) ≡ true
of_marked commas d j [] h = refl
of_marked commas d j (c ∷ cs) h = cons c (mark commas d (length cs + j) ++ marked commas d j cs) (head c cs h) (join (mark commas d (length cs + j)) (marked commas d j cs) (of_mark commas d (length cs + j)) (of_marked commas d j cs (tail c cs h)))

of_blanked : (cs : List ℕ) → printable cs ≡ true → printable (blanked cs) ≡ true
of_blanked [] h = refl
of_blanked (c ∷ []) h = h
of_blanked (c ∷ b ∷ cs) h = at (eqb c 48 || eqb c 44) (of_blanked (b ∷ cs) (tail c (b ∷ cs) h))
  where
    at : (v : Bool) → printable (blanked (b ∷ cs)) ≡ true → printable (cond v (32 ∷ blanked (b ∷ cs)) (c ∷ b ∷ cs)) ≡ true
    at true k = k
    at false k = h

of_sign : (s : SignStyle) (m : Bool) → printable (sign_bytes s m) ≡ true
of_sign Omitted m = refl
of_sign Minus true = refl
of_sign Minus false = refl

pub of_blanks : (n : ℕ) → printable (replicate n 32) ≡ true
of_blanks zero = refl
of_blanks (suc n) = of_blanks n

of_punch : (m : Bool) (d : ℕ) → d < 10 → prints (overpunch m d) ≡ true
of_punch false d h = grind (arith, nat_tests)
of_punch true d h = grind (arith, nat_tests)

pub of_shown : (e : EditStyle) (n d : ℕ) (z : ℤ) → printable (blanked (text e.commas d (digits n (nat_abs z))) ++ sign_bytes e.sign (negative z)) ≡ true
of_shown e n d z =
    let ds = digits n (nat_abs z) in
    join (blanked (text e.commas d ds)) (sign_bytes e.sign (negative z))
    (of_blanked (text e.commas d ds) (join (mark false d (length ds)) (marked e.commas d 0 ds) (of_mark false d (length ds)) (of_marked e.commas d 0 ds (of_digits n (nat_abs z)))))
    (of_sign e.sign (negative z))

pub of_edited : (e : EditStyle) (n d : ℕ) (z : ℤ) → printable (edited e n d z) ≡ true
of_edited e n d z = edited_is (λ cs. printable cs ≡ true) e n d z (λ _. of_blanks (edited_width e n d)) (of_shown e n d z)

pub of_unedited : (n : ℕ) (z : ℤ) → printable (unedited n z) ≡ true
of_unedited n z = join (digits (n - 1) (nat_abs z / 10)) (overpunch (negative z) (nat_abs z % 10) ∷ []) (of_digits (n - 1) (nat_abs z / 10))
    (cons (overpunch (negative z) (nat_abs z % 10)) [] (of_punch (negative z) (nat_abs z % 10) (omega arith)) refl)

pub of_image : (c : Option EditCode) (n d : ℕ) (z : ℤ) → printable (image_of c n d z) ≡ true
of_image None n d z = of_unedited n z
of_image (Some c) n d z = of_edited (style_of c) n d z

pub printables : Printables
printables = record {
  image = of_image;
  line = λ l p xs h k. join (take (p - length xs) l) (xs ++ drop p l) (taken (p - length xs) l h) (join xs (drop p l) k (dropped p l h));
}
