-- Edit codes and images read back: for images one induction over the number of digits for each of the two readings.
use Rattle.std.proofs.Common.{◌≡◌, ℕ, zero, suc, ◌+◌, ◌-◌, ◌*◌, ◌/◌, ◌%◌, ◌^◌, ◌<◌, ◌≤◌, Bool, true, false, cond, ◌||◌, eqb, List, [], ◌∷◌, ◌++◌, length, replicate, ℤ, pos, negsuc, neg_ℤ, nat_abs, Some, None, Ok, sym, refl, ap, ◌∙◌, append_assoc, append-nil, add-zero, pow-suc, add-one, arith, length-append}
use Rattle.std.proofs.lemmas.List.{take_at, get_or_at}
use Rattle.std.proofs.lemmas.Bool.Decides.{nat_tests}
use Rattle.images.specs.declared.edits.EditCode.TheVariants.{One, Two, Three, Four, J, K, L, M}
use Rattle.images.specs.declared.edits.SignStyle.{SignStyle}
use Rattle.images.specs.declared.edits.SignStyle.TheVariants.{Omitted, Minus}
use Rattle.images.specs.declared.edits.EditStyle.{EditStyle}
use Rattle.numbers.specs.Signs.{negative, signed}
use Rattle.numbers.specs.Reading.{within, read_on, read_field, read_last, count_of, last_of, punch}
use Rattle.images.specs.Edits.{style_of, tells_sign}
use Rattle.images.specs.Images.{digits, unedited, overpunch, mark, marked, text, blanked, sign_bytes, edited_width, edited}
use Rattle.images.specs.Laws.{punched_minus, punched_digit, shown_from, shown, CodesReadBack, ReadsBack, ShowsBack, ImagesTell}
use Rattle.std.proofs.lemmas.Bool.{eqb-true}
use Rattle.images.proofs.Cases.{mark_is, edited_is}

pub codes_read_back : CodesReadBack
codes_read_back One = refl
codes_read_back Two = refl
codes_read_back Three = refl
codes_read_back Four = refl
codes_read_back J = refl
codes_read_back K = refl
codes_read_back L = refl
codes_read_back M = refl

front : (m x : ℕ) → x < 10 ^ suc m → x / 10 < 10 ^ m
front m x h = omega (arith, pow-suc 10 m)

rest_fits : (n x : ℕ) → 1 ≤ n → x < 10 ^ n → x / 10 < 10 ^ (n - 1)
rest_fits n x h k = let p : suc (n - 1) ≡ n = omega arith in front (n - 1) x (rw p k)

count_digit : (d : ℕ) → d < 10 → count_of (48 + d) ≡ Some d
count_digit d h = grind (arith, nat_tests)

-- the reading of a field over digits
pub read_digits : (m x i : ℕ) (r : List ℕ) → x < 10 ^ m → read_on 0 i (digits m x ++ r) ≡ read_on x (i + m) r
read_digits zero x i r h = let e : x ≡ 0 = omega arith in rw (e, add-zero) refl
read_digits (suc m) x i r h =
    let s : digits (suc m) x ++ r ≡ digits m (x / 10) ++ (48 + x % 10) ∷ r = append_assoc (digits m (x / 10)) ((48 + x % 10) ∷ []) r in
    let c : count_of (48 + x % 10) ≡ Some (x % 10) = count_digit (x % 10) (omega arith) in
    let v : x / 10 * 10 + x % 10 ≡ x = omega arith in
    let w : (i + m) + 1 ≡ i + suc m = omega arith in
    ap (read_on 0 i) s ∙ read_digits m (x / 10) i ((48 + x % 10) ∷ r) (front m x h) ∙ rw (c, v, w) refl

last_is : (neg : Bool) (d : ℕ) → d < 10 → last_of (overpunch neg d) ≡ punch neg d
last_is false d h = grind (arith, nat_tests)
last_is true d h = grind (arith, nat_tests)

resigned : (z : ℤ) → signed (negative z) (nat_abs z) ≡ z
resigned (pos n) = refl
resigned (negsuc n) = refl

pub length_digits : (n x : ℕ) → length (digits n x) ≡ n
length_digits zero x = refl
length_digits (suc n) x = length-append (digits n (x / 10)) _ ∙ rw (length_digits n (x / 10)) (add-one n)

read_snoc : (ds : List ℕ) (b i v m : ℕ) → length ds ≡ m → read_on 0 i ds ≡ Ok v → read_field i (ds ++ b ∷ []) ≡ read_last v (i + m) b
read_snoc ds b i v m l e =
    let k : length (ds ++ b ∷ []) - 1 ≡ m = simp length-append (omega arith) in
    rw (k, take_at ds (b ∷ []) m l, get_or_at ds b [] 0 m l, e) refl

pub reads_back : ReadsBack
reads_back n i z h k =
    let x = nat_abs z in
    let d : read_on 0 i (digits (n - 1) (x / 10)) ≡ Ok (x / 10) = rw (append-nil (digits (n - 1) (x / 10))) at (read_digits (n - 1) (x / 10) i [] (rest_fits n x h k)) in
    let l : last_of (overpunch (negative z) (x % 10)) ≡ punch (negative z) (x % 10) = last_is (negative z) (x % 10) (omega arith) in
    let v : x / 10 * 10 + x % 10 ≡ x = omega arith in
    read_snoc (digits (n - 1) (x / 10)) (overpunch (negative z) (x % 10)) i (x / 10) (n - 1) (length_digits (n - 1) (x / 10)) d
    ∙ rw (l, v) (ap Ok (resigned z))

-- the amount that columns show, over digits, marks, and blanked fronts
shown_digit : (v d : ℕ) (r : List ℕ) → d < 10 → shown_from v ((48 + d) ∷ r) ≡ shown_from (v * 10 + d) r
shown_digit v d r h =
    let w : within 48 57 (48 + d) ≡ true = grind (arith, nat_tests) in
    let s : (48 + d) - 48 ≡ d = omega arith in
    rw (w, s) refl

pub shown-digits : (m x : ℕ) (r : List ℕ) → x < 10 ^ m → shown_from 0 (digits m x ++ r) ≡ shown_from x r
shown-digits zero x r h = let e : x ≡ 0 = omega arith in rw e refl
shown-digits (suc m) x r h =
    let s : digits (suc m) x ++ r ≡ digits m (x / 10) ++ (48 + x % 10) ∷ r = append_assoc (digits m (x / 10)) ((48 + x % 10) ∷ []) r in
    let v : x / 10 * 10 + x % 10 ≡ x = omega arith in
    ap (shown_from 0) s ∙ shown-digits m (x / 10) ((48 + x % 10) ∷ r) (front m x h) ∙ shown_digit (x / 10) (x % 10) r (omega arith) ∙ ap (λ y. shown_from y r) v

shown-mark : (commas : Bool) (d k v : ℕ) (r : List ℕ) → shown_from v (mark commas d k ++ r) ≡ shown_from v r
shown-mark commas d k v r = mark_is (λ m. shown_from v (m ++ r) ≡ shown_from v r) commas d k refl refl refl

-- what stands behind a column counts only by what it shows
shown-behind : (v c : ℕ) (xs ys : List ℕ) → ((y : ℕ) → shown_from y xs ≡ shown_from y ys) → shown_from v (c ∷ xs) ≡ shown_from v (c ∷ ys)
shown-behind v c xs ys s = at (within 48 57 c) (eqb c 45) (punched_minus c)
  where
    at : (a b p : Bool) → cond a (shown_from (v * 10 + (c - 48)) xs) (cond b (neg_ℤ (pos v)) (cond p (neg_ℤ (pos (v * 10 + punched_digit c))) (shown_from v xs))) ≡
        cond a (shown_from (v * 10 + (c - 48)) ys) (cond b (neg_ℤ (pos v)) (cond p (neg_ℤ (pos (v * 10 + punched_digit c))) (shown_from v ys)))
    at true b p = s (v * 10 + (c - 48))
    at false true p = refl
    at false false true = refl
    at false false false = s v

shown-marked : (commas : Bool) (d j v : ℕ) (cs r : List ℕ) → shown_from v (marked commas d j cs ++ r) ≡ shown_from v (cs ++ r)
shown-marked commas d j v [] r = refl
shown-marked commas d j v (c ∷ cs) r =
    let s : (y : ℕ) → shown_from y ((mark commas d (length cs + j) ++ marked commas d j cs) ++ r) ≡ shown_from y (cs ++ r) =
    λ y. ap (shown_from y) (append_assoc (mark commas d (length cs + j)) (marked commas d j cs) r) ∙ shown-mark commas d (length cs + j) y (marked commas d j cs ++ r) ∙ shown-marked commas d j y cs r in
    shown-behind v c ((mark commas d (length cs + j) ++ marked commas d j cs) ++ r) (cs ++ r) s

shown-blanked : (cs r : List ℕ) → shown_from 0 (blanked cs ++ r) ≡ shown_from 0 (cs ++ r)
shown-blanked [] r = refl
shown-blanked (c ∷ []) r = refl
shown-blanked (c ∷ b ∷ cs) r = at (eqb c 48) (eqb c 44) refl refl (shown-blanked (b ∷ cs) r)
  where
    at : (p q : Bool) → eqb c 48 ≡ p → eqb c 44 ≡ q → shown_from 0 (blanked (b ∷ cs) ++ r) ≡ shown_from 0 ((b ∷ cs) ++ r) →
        shown_from 0 (cond (p || q) (32 ∷ blanked (b ∷ cs)) (c ∷ b ∷ cs) ++ r) ≡ shown_from 0 (c ∷ ((b ∷ cs) ++ r))
    at true q e f h = let k : c ≡ 48 = grind (arith, nat_tests) in h ∙ rw k refl
    at false true e f h = let k : c ≡ 44 = grind (arith, nat_tests) in h ∙ rw k refl
    at false false e f h = refl

shown_blanks : (n : ℕ) → shown_from 0 (replicate n 32) ≡ pos 0
shown_blanks zero = refl
shown_blanks (suc n) = shown_blanks n

shown-signed : (s : SignStyle) (z : ℤ) → tells_sign s ≡ true → shown_from (nat_abs z) (sign_bytes s (negative z)) ≡ z
shown-signed Omitted z m = let e : ◌≡◌ {A = ℕ} 0 1 = cc in absurd (omega arith)
shown-signed Minus (pos n) m = refl
shown-signed Minus (negsuc n) m = refl

zero_is : (z : ℤ) → nat_abs z ≡ 0 → pos 0 ≡ z
zero_is (pos n) e = ap pos (sym e)
zero_is (negsuc n) e = absurd (omega arith)

shown-full : (e : EditStyle) (n d : ℕ) (z : ℤ) → tells_sign e.sign ≡ true → nat_abs z < 10 ^ n → shown_from 0 (blanked (text e.commas d (digits n (nat_abs z))) ++ sign_bytes e.sign (negative z)) ≡ z
shown-full e n d z m h =
    let ds = digits n (nat_abs z) in
    let s = sign_bytes e.sign (negative z) in
    shown-blanked (text e.commas d ds) s
    ∙ ap (shown_from 0) (append_assoc (mark false d (length ds)) (marked e.commas d 0 ds) s)
    ∙ shown-mark false d (length ds) 0 (marked e.commas d 0 ds ++ s)
    ∙ shown-marked e.commas d 0 0 ds s
    ∙ shown-digits n (nat_abs z) s h
    ∙ shown-signed e.sign z m

shown-edited : (e : EditStyle) (n d : ℕ) (z : ℤ) → tells_sign e.sign ≡ true → nat_abs z < 10 ^ n → shown (edited e n d z) ≡ z
shown-edited e n d z m h = edited_is (λ cs. shown cs ≡ z) e n d z (λ k. shown_blanks (edited_width e n d) ∙ zero_is z (eqb-true (nat_abs z) 0 k)) (shown-full e n d z m h)

-- the last column of an unedited image
shown_last : (neg : Bool) (v d : ℕ) → d < 10 → shown_from v (overpunch neg d ∷ []) ≡ signed neg (v * 10 + d)
shown_last false v d h = shown_digit v d [] h
shown_last true v d h = at (eqb d 0) refl
  where
    at : (b : Bool) → eqb d 0 ≡ b → shown_from v (cond b 125 (73 + d) ∷ []) ≡ neg_ℤ (pos (v * 10 + d))
    at true e = let k : d ≡ 0 = grind (arith, nat_tests) in rw k refl
    at false e =
        let w : within 48 57 (73 + d) ≡ false = grind (arith, nat_tests) in
        let m : eqb (73 + d) 45 ≡ false = grind (arith, nat_tests) in
        let q : eqb (73 + d) 125 ≡ false = grind (arith, nat_tests) in
        let p : within 74 82 (73 + d) ≡ true = grind (arith, nat_tests) in
        let s : 73 + d - 73 ≡ d = omega arith in
        rw (w, m, q, p, s) refl

shown-unedited : (n : ℕ) (z : ℤ) → 1 ≤ n → nat_abs z < 10 ^ n → shown (unedited n z) ≡ z
shown-unedited n z h k =
    let x = nat_abs z in
    let v : x / 10 * 10 + x % 10 ≡ x = omega arith in
    shown-digits (n - 1) (x / 10) (overpunch (negative z) (x % 10) ∷ []) (rest_fits n x h k)
    ∙ shown_last (negative z) (x / 10) (x % 10) (omega arith) ∙ rw v (resigned z)

pub shows_back : ShowsBack
shows_back None n d z m h k = shown-unedited n z h k
shows_back (Some c) n d z m h k = shown-edited (style_of c) n d z m k

pub images_tell : ImagesTell
images_tell c n d z w m h k l e = sym (shows_back c n d z m h k) ∙ ap shown e ∙ shows_back c n d w m h l
