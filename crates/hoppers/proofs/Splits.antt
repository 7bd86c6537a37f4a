-- The first line of a text.
use Rattle.std.proofs.Common.{◌≡◌, ℕ, suc, ◌+◌, ◌<◌, ◌≤◌, Bool, true, false, cond, not, eqb, ltb, ◌==◌, List, [], ◌∷◌, ◌++◌, length, get_or, take, drop, Some, None, unwrap_or, sym, refl, ap, ◌∙◌, append_assoc, append-nil, arith}
use Rattle.std.specs.List.{position, position_or_len, before_first, after_first}
use Rattle.std.proofs.lemmas.Bool.Decides.{nat_tests}
use Rattle.std.proofs.lemmas.List.{drop_more, take-append-drop}
use Rattle.std.proofs.lemmas.List.Sums.{prefix_len-le-length}
use Rattle.hoppers.specs.TextLines.{no_end, ended, last_line, lines_from, lines_of, LinesRead}

abbrev pub is_end : ℕ → Bool
is_end b = b == 10

-- a place that is found, or the length
first_or_end : (p : ℕ → Bool) (bs : List ℕ) → unwrap_or (position p bs) (length bs) ≡ position_or_len p bs
first_or_end p bs = at (ltb (position_or_len p bs) (length bs)) refl (prefix_len-le-length (λ x. not (p x)) bs)
  where
    at : (v : Bool) → ltb (position_or_len p bs) (length bs) ≡ v → position_or_len p bs ≤ length bs → unwrap_or (cond v (Some (position_or_len p bs)) None) (length bs) ≡ position_or_len p bs
    at true e h = refl
    at false e h = grind (arith, nat_tests)

pub no_end-append : (xs ys : List ℕ) → no_end xs ≡ true → no_end ys ≡ true → no_end (xs ++ ys) ≡ true
no_end-append [] ys h k = k
no_end-append (x ∷ xs) ys h k =
    let e : eqb x 10 ≡ false = grind (arith, nat_tests) in
    rw (e, no_end-append xs ys (grind (arith, nat_tests)) k) refl

walk : (start us bs : List ℕ) → no_end us ≡ true → lines_from start (us ++ bs) ≡ lines_from (start ++ us) bs
walk start [] bs h = rw append-nil refl
walk start (a ∷ us) bs h =
    let e : eqb a 10 ≡ false = grind (arith, nat_tests) in
    let k : no_end us ≡ true = grind (arith, nat_tests) in
    rw e (walk (start ++ a ∷ []) us bs k ∙ ap (λ x. lines_from x bs) (append_assoc start (a ∷ []) us))

pub cut : (us bs : List ℕ) → no_end us ≡ true → lines_of (us ++ 10 ∷ bs) ≡ us ∷ lines_of bs
cut us bs h = walk [] us (10 ∷ bs) h

last_of : (bs : List ℕ) → 1 ≤ length bs → last_line bs ≡ bs ∷ []
last_of [] h = absurd (omega arith)
last_of (b ∷ bs) h = refl

-- the first line goes up to the first byte that ends one, or to the end of the bytes
line_from : (start bs : List ℕ) → 1 ≤ length (start ++ bs) → lines_from start bs ≡ (start ++ before_first is_end bs) ∷ lines_of (after_first is_end bs)
line_from start [] h = rw append-nil (last_of start (rw append-nil at h))
line_from start (b ∷ bs) h = at (eqb b 10) (line_from (start ++ b ∷ []) bs (rw (append_assoc start (b ∷ []) bs) h))
  where
    at : (v : Bool) → lines_from (start ++ b ∷ []) bs ≡ ((start ++ b ∷ []) ++ before_first is_end bs) ∷ lines_of (after_first is_end bs)
        → cond v (start ∷ lines_from [] bs) (lines_from (start ++ b ∷ []) bs) ≡ (start ++ take (cond (not v) (1 + position_or_len is_end bs) 0) (b ∷ bs)) ∷ lines_of (drop (cond (not v) (1 + position_or_len is_end bs) 0 + 1) (b ∷ bs))
    at true e = rw append-nil refl
    at false e =
        let n = position_or_len is_end bs in
        let k : 1 + n ≡ suc n = omega arith in
        let l : suc n + 1 ≡ suc (n + 1) = omega arith in
        rw (k, l) (rw append_assoc at e)

pub line_found : (bs : List ℕ) (n : ℕ) → n ≡ unwrap_or (position is_end bs) (length bs) → 1 ≤ length bs → lines_of bs ≡ take n bs ∷ lines_of (drop (n + 1) bs)
line_found bs n e h = rw (e ∙ first_or_end is_end bs) (line_from [] bs h)

-- the first line of bytes that are cut at a line end
pub first_line : (bs : List ℕ) (n : ℕ) → n < length bs → no_end (take n bs) ≡ true → get_or bs n 0 ≡ 10 → lines_of bs ≡ take n bs ∷ lines_of (drop (n + 1) bs)
first_line bs n h k e =
    let d : drop n bs ≡ 10 ∷ drop (n + 1) bs = drop_more bs n 0 h ∙ ap (λ x. x ∷ drop (n + 1) bs) e in
    ap lines_of (sym (take-append-drop n bs) ∙ ap (λ x. take n bs ++ x) d) ∙ cut (take n bs) (drop (n + 1) bs) k

only : (bs : List ℕ) → no_end bs ≡ true → lines_of bs ≡ last_line bs
only bs h = sym (ap lines_of (append-nil bs)) ∙ walk [] bs [] h

pub lines_read : LinesRead
lines_read [] l h k = only l k
lines_read (m ∷ ms) l h k =
    cut m (ended ms l) (grind (arith, nat_tests)) ∙ ap (λ x. m ∷ x) (lines_read ms l (grind (arith, nat_tests)) k)
