-- Digits and marks put from the right to the left.
use Rattle.std.proofs.Common.{◌≡◌, ℕ, suc, ◌+◌, ◌-◌, ◌/◌, ◌%◌, ◌<◌, ◌≤◌, Bool, false, List, [], ◌∷◌, ◌++◌, length, sym, refl, ap, ◌∙◌, append_assoc, append-nil, zero-add, arith, length-append}
use native.Mathlib.Nat.{sub-zero}
use Rattle.images.specs.Images.{digits, mark, marked, text}
use Rattle.images.specs.Drafts.{Drafted, fronted}
use Rattle.images.proofs.Backs.{length_digits}

marked_snoc : (commas : Bool) (d j : ℕ) (cs : List ℕ) (c : ℕ) → marked commas d j (cs ++ c ∷ []) ≡ marked commas d (j + 1) cs ++ (c ∷ mark commas d j)
marked_snoc commas d j [] c = rw (zero-add j, append-nil (mark commas d j)) refl
marked_snoc commas d j (b ∷ cs) c =
    let n : length (cs ++ c ∷ []) + j ≡ length cs + (j + 1) = simp length-append (omega arith) in
    rw (n, marked_snoc commas d j cs c) (ap (λ t. b ∷ t) (sym (append_assoc (mark commas d (length cs + (j + 1))) (marked commas d (j + 1) cs) (c ∷ mark commas d j))))

-- what is still to be put when k of n digits are put
abbrev pub left : Bool → ℕ → ℕ → ℕ → ℕ → List ℕ
left commas d n k x = mark false d n ++ marked commas d k (digits (n - k) x)

pub left_all : (commas : Bool) (d n x : ℕ) → left commas d n 0 x ≡ text commas d (digits n x)
left_all commas d n x = rw (sub-zero n, length_digits n x) refl

left_more : (commas : Bool) (d n k x : ℕ) → k < n → left commas d n k x ≡ (left commas d n (k + 1) (x / 10) ++ (48 + x % 10) ∷ []) ++ mark commas d k
left_more commas d n k x h =
    let m : n - k ≡ suc (n - (k + 1)) = omega arith in
    rw (m, marked_snoc commas d k (digits (n - (k + 1)) (x / 10)) (48 + x % 10)) (simp append_assoc)

length_left : (commas : Bool) (d n k x : ℕ) → k < n → length (left commas d n k x) ≡ length (left commas d n (k + 1) (x / 10)) + 1 + length (mark commas d k)
length_left commas d n k x h = ap length (left_more commas d n k x h) ∙ simp length-append

-- what comes last is put first
fronted-append : (xs ys : List ℕ) (d : Drafted) → fronted (xs ++ ys) d ≡ fronted xs (fronted ys d)
fronted-append xs ys d =
    let n : d.room - length (xs ++ ys) ≡ d.room - length ys - length xs = simp length-append (omega arith) in
    rw (n, append_assoc xs ys d.written) refl

-- there is room for all that is left, and it will make the draft that is wanted
pub record Puts (goal : Drafted) (xs : List ℕ) (d : Drafted) : Type 0 where
  pub room : length xs ≤ d.room
  pub all : fronted xs d ≡ goal

pub puts_room : {goal : Drafted} (commas : Bool) (d n k x : ℕ) {e : Drafted} → k < n → Puts goal (left commas d n k x) e → 1 + length (mark commas d k) ≤ e.room
puts_room commas d n k x h p = omega (arith, p.room, length_left commas d n k x h)

-- a mark and a digit put
pub puts_more : {goal : Drafted} (commas : Bool) (d n k x : ℕ) (e : Drafted) → k < n → Puts goal (left commas d n k x) e →
    Puts goal (left commas d n (k + 1) (x / 10)) (fronted ((48 + x % 10) ∷ []) (fronted (mark commas d k) e))
puts_more {goal} commas d n k x e h p =
    let R = left commas d n (k + 1) (x / 10) in
    let c = (48 + x % 10) ∷ [] in
    record {
      room = omega (arith, p.room, length_left commas d n k x h);
      all = sym (fronted-append R c (fronted (mark commas d k) e)) ∙ sym (fronted-append (R ++ c) (mark commas d k) e) ∙ rw (← (left_more commas d n k x h)) p.all;
    }
