-- What the columns of a line hold that was written into.
use Rattle.std.proofs.Common.{◌≡◌, ℕ, ◌+◌, ◌-◌, ◌<◌, ◌≤◌, false, ◌||◌, eqb, ltb, List, ◌++◌, length, get_or, take, drop, sym, refl, ap, ◌∙◌, inl, inr, arith, length-append, length-drop, length-take}
use borrow.Rule.Slice.PartMut.{put_mid}
use Rattle.std.proofs.lemmas.List.{drop-drop, drop_at, take_at, length-take-le, same_lists, get_or-take, get_or-drop, get_or_append_left, get_or-append_right}
use Rattle.std.proofs.lemmas.Bool.Decides.{nat_tests}
use Rattle.images.specs.Limits.{line_columns}
use Rattle.images.specs.Lines.{before, columns, laid}
use Rattle.images.specs.Laws.{ColumnsHold, ColumnsStay}

pub length_before : (l : List ℕ) (e : ℕ) (xs : List ℕ) → length xs ≤ e → e ≤ length l → length (before l e xs) ≡ length l
length_before l e xs h k = simp (length-append, length-take, length-drop) (omega arith)

-- a part of a line that is replaced by as many bytes, as the laying of an image
pub laid_part : (l : List ℕ) (e w : ℕ) (xs ys : List ℕ) → ys ≡ xs → length xs ≡ w → 0 < e → e ≤ line_columns → w ≤ e → e ≤ length l → put_mid (e - w) (e - (e - w)) l ys ≡ laid l e xs
laid_part l e w xs ys y n z o h k =
    let a : (eqb e 0 || ltb line_columns e) ≡ false = grind (arith, nat_tests) in
    let b : ltb e (length xs) ≡ false = grind (arith, nat_tests) in
    let m : e - w + (e - (e - w)) ≡ e = omega arith in
    rw (y, a, b, drop-drop (e - (e - w)) (e - w) l, m, n) refl

-- the columns of a line that was written into
at_left : (l : List ℕ) (e : ℕ) (xs : List ℕ) (i d : ℕ) → length xs ≤ e → e ≤ length l → i < e - length xs → get_or (before l e xs) i d ≡ get_or l i d
at_left l e xs i d h k b =
    let n : length (take (e - length xs) l) ≡ e - length xs = length-take-le (e - length xs) l (omega arith) in
    get_or_append_left (take (e - length xs) l) (xs ++ drop e l) d i (omega arith) ∙ get_or-take (e - length xs) l i d b

at_right : (l : List ℕ) (e : ℕ) (xs : List ℕ) (i d : ℕ) → length xs ≤ e → e ≤ length l → e ≤ i → get_or (before l e xs) i d ≡ get_or l i d
at_right l e xs i d h k a =
    let n : length (take (e - length xs) l) ≡ e - length xs = length-take-le (e - length xs) l (omega arith) in
    let j : e + (i - (e - length xs) - length xs) ≡ i = omega arith in
    get_or-append_right (take (e - length xs) l) (xs ++ drop e l) (e - length xs) i d n (omega arith)
    ∙ get_or-append_right xs (drop e l) (length xs) (i - (e - length xs)) d refl (omega arith)
    ∙ get_or-drop e l (i - (e - length xs) - length xs) d ∙ ap (λ m. get_or l m d) j

pub columns_hold : ColumnsHold
columns_hold l p xs h k =
    let n : length (take (p - length xs) l) ≡ p - length xs = length-take-le (p - length xs) l (omega arith) in
    rw (drop_at (take (p - length xs) l) (xs ++ drop p l) (p - length xs) n) (take_at xs (drop p l) (length xs) refl)

pub columns_stay : ColumnsStay
columns_stay l p w q ys h k m n apart =
    let a : length (before l q ys) ≡ length l = length_before l q ys m n in
    let b : (x : List ℕ) → length x ≡ length l → length (columns x p w) ≡ w = λ x e. length-take-le w (drop (p - w) x) (let d = length-drop (p - w) x in omega arith) in
    same_lists (columns (before l q ys) p w) (columns l p w) (b (before l q ys) a ∙ sym (b l refl))
    (λ i d c. let c2 : i < w = rw (b (before l q ys) a) at c in
    get_or-take w (drop (p - w) (before l q ys)) i d c2 ∙ get_or-drop (p - w) (before l q ys) i d
    ∙ elim apart [ inl u ↦ at_left l q ys (p - w + i) d m n (omega arith) | inr u ↦ at_right l q ys (p - w + i) d m n (omega arith) ]
    ∙ sym (get_or-take w (drop (p - w) l) i d c2 ∙ get_or-drop (p - w) l i d))
