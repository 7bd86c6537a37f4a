-- Fields of one level go together: of one length and one kind.
use Rattle.std.proofs.Common.{◌≡◌, ℕ, zero, suc, ◌-◌, ◌<◌, ◌≤◌, Bool, true, false, cond, not, ◌&&◌, ltb, ◌⊎◌, List, length, get_or, set, is_some, Some, None, Option, sym, refl, ap, ◌∙◌, subst, inl, inr, le_of_suc-le-suc, not-suc-le-zero, eq-or-lt_of_le, arith, length-set}
use Rattle.std.proofs.lemmas.List.{get_or-set_same, get_or-set_other}
use Rattle.std.proofs.lemmas.Bool.{and_parts}
use Rattle.std.proofs.lemmas.Bool.Decides.{nat_tests}
use Rattle.cards.specs.declared.kinds.Shape.{Shape}
use Rattle.cards.specs.declared.kinds.Shape.TheVariants.{Number, Text}
use Rattle.cards.specs.declared.kinds.FieldCard.{FieldCard}
use Rattle.cards.specs.declared.kinds.DeckCard.{DeckCard}
use Rattle.cards.specs.declared.kinds.DeckCard.TheVariants.{Field}
use Rattle.deck.specs.Decks.{count, defined_by, seen_by}
use Rattle.deck.specs.Defined.{Defined, define, with_level}
use Rattle.deck.specs.Laws.{card_in, Accepted}
use Rattle.deck.specs.Rules.{go_together, fits_shape, fits_level, doubles}
use Rattle.deck.proofs.Apart.{single_field, doubles_kept}
use Rattle.deck.proofs.Resolved.{not_false}

together_self : (s : Shape) → go_together s s ≡ true
together_self (Number m d) = grind (arith, nat_tests)
together_self (Text n) = grind (arith, nat_tests)

together_join : (x a b : Shape) → go_together x a ≡ true → go_together x b ≡ true → go_together a b ≡ true
together_join (Number m d) (Number n e) (Number p g) h k = grind (arith, nat_tests)
together_join (Number m d) (Number n e) (Text p) h k = k
together_join (Number m d) (Text n) b h k = not_false h
together_join (Text m) (Number n e) b h k = not_false h
together_join (Text m) (Text n) (Number p g) h k = k
together_join (Text m) (Text n) (Text p) h k = grind (arith, nat_tests)

-- a level that has its shape keeps it
stay : (v : List (Option Shape)) (o : Option ℕ) (s : Shape) (q : ℕ) (t : Shape) → get_or v q None ≡ Some t → get_or (with_level v o s) q None ≡ Some t
stay v None s q t h = h
stay v (Some m) s q t h = at (ltb (m - 100) 10 && not (is_some (get_or v (m - 100) None))) refl
  where
    other : not (is_some (get_or v (m - 100) None)) ≡ true → q ≡ m - 100 → ⊥
    other n p =
        let e : get_or v (m - 100) None ≡ Some t = subst (λ (k : ℕ). get_or v k None ≡ Some t) p h in
        not_false (subst (λ (r : Option Shape). not (is_some r) ≡ true) e n)

    at : (b : Bool) → (ltb (m - 100) 10 && not (is_some (get_or v (m - 100) None))) ≡ b → get_or (cond b (set v (m - 100) (Some s)) v) q None ≡ Some t
    at true e = get_or-set_other v (m - 100) q (Some s) None (other (and_parts (ltb (m - 100) 10) (not (is_some (get_or v (m - 100) None))) e).1) ∙ h
    at false e = h

stays : (d : Defined) (c : DeckCard) (q : ℕ) (t : Shape) → get_or d.levels q None ≡ Some t → get_or (define d c).levels q None ≡ Some t
stays d (Field f) q t h = stay d.levels f.level f.shape q t h
stays d _ q t h = h

-- there are ten places for levels
ten_with : (v : List (Option Shape)) (o : Option ℕ) (s : Shape) → length v ≡ 10 → length (with_level v o s) ≡ 10
ten_with v None s h = h
ten_with v (Some m) s h = at (ltb (m - 100) 10 && not (is_some (get_or v (m - 100) None)))
  where
    at : (b : Bool) → length (cond b (set v (m - 100) (Some s)) v) ≡ 10
    at true = length-set v (m - 100) (Some s) ∙ h
    at false = h

ten_define : (d : Defined) (c : DeckCard) → length d.levels ≡ 10 → length (define d c).levels ≡ 10
ten_define d (Field f) h = ten_with d.levels f.level f.shape h
ten_define d _ h = h

ten : (text : List ℕ) (k : ℕ) → length (defined_by text k).levels ≡ 10
ten text zero = refl
ten text (suc k) = ten_define (defined_by text k) (card_in text k) (ten text k)

-- a level has a shape that goes together with another
record Has (v : List (Option Shape)) (q : ℕ) (s : Shape) : Type 0 where
  shape : Shape
  slot : get_or v q None ≡ Some shape
  fits : go_together shape s ≡ true

-- and so has one to which such a field was given
has_new : (v : List (Option Shape)) (l : ℕ) (s : Shape) → length v ≡ 10 → l - 100 < 10 → fits_shape (get_or v (l - 100) None) s ≡ true → Has (with_level v (Some l) s) (l - 100) s
has_new v l s n h k = at (get_or v (l - 100) None) refl k
  where
    low : ltb (l - 100) 10 ≡ true
    low = grind (arith, nat_tests)

    at : (r : Option Shape) → get_or v (l - 100) None ≡ r → fits_shape r s ≡ true → Has (with_level v (Some l) s) (l - 100) s
    at None e f =
        let test : (ltb (l - 100) 10 && not (is_some (get_or v (l - 100) None))) ≡ true = rw (low, e) refl in
        let i : l - 100 < length v = subst (λ (m : ℕ). l - 100 < m) (sym n) h in
        record {
          shape = s;
          slot = ap (λ (b : Bool). get_or (cond b (set v (l - 100) (Some s)) v) (l - 100) None) test ∙ get_or-set_same v (l - 100) (Some s) None i;
          fits = together_self s;
        }
    at (Some t) e f = record { shape = t; slot = stay v (Some l) s (l - 100) t e; fits = f }

-- a field card of an accepted deck fits its level
fits_at : (text : List ℕ) → Accepted text → (k : ℕ) → k < count text → (g : FieldCard) → card_in text k ≡ Field g → (l : ℕ) → g.level ≡ Some l → l - 100 < 10 → fits_shape (get_or (defined_by text k).levels (l - 100) None) g.shape ≡ true
fits_at text a k h g c l e low =
    let d = defined_by text k in
    let b = seen_by text k in
    let told = subst (λ (x : DeckCard). doubles d b x ≡ None) c (doubles_kept text a k h) in
    let fits = subst (λ (o : Option ℕ). fits_level d.levels o g.shape ≡ true) e (single_field d b g told).fits in
    let test : ltb (l - 100) 10 ≡ true = grind (arith, nat_tests) in
    subst (λ (t : Bool). fits_shape (cond t (get_or d.levels (l - 100) None) None) g.shape ≡ true) test fits

-- behind a control field its level has such a shape
has_behind : (text : List ℕ) → Accepted text → (i : ℕ) → i < count text → (f : FieldCard) → card_in text i ≡ Field f → (l : ℕ) → f.level ≡ Some l → l - 100 < 10 → (j : ℕ) → i < j → Has (defined_by text j).levels (l - 100) f.shape
has_behind text a i n f c l e low zero h = absurd (not-suc-le-zero h)
has_behind text a i n f c l e low (suc j) h = at (eq-or-lt_of_le (le_of_suc-le-suc h)) (has_behind text a i n f c l e low j)
  where
    at : (i ≡ j) ⊎ (i < j) → (i < j → Has (defined_by text j).levels (l - 100) f.shape) → Has (define (defined_by text j) (card_in text j)).levels (l - 100) f.shape
    at (inl p) k =
        let d = defined_by text j in
        let cj : card_in text j ≡ Field f = subst (λ (m : ℕ). card_in text m ≡ Field f) p c in
        let nj : j < count text = subst (λ (m : ℕ). m < count text) p n in
        subst (λ (x : DeckCard). Has (define d x).levels (l - 100) f.shape) (sym cj)
        (subst (λ (o : Option ℕ). Has (with_level d.levels o f.shape) (l - 100) f.shape) (sym e)
        (has_new d.levels l f.shape (ten text j) low (fits_at text a j nj f cj l e low)))
    at (inr q) k = let r = k q in record { shape = r.shape; slot = stays (defined_by text j) (card_in text j) (l - 100) r.shape r.slot; fits = r.fits }

pub levels_alike : (text : List ℕ) → Accepted text → (i j : ℕ) → i < j → j < count text → (f g : FieldCard) → card_in text i ≡ Field f → card_in text j ≡ Field g → (l : ℕ) → 101 ≤ l → l ≤ 109 → f.level ≡ Some l → g.level ≡ Some l → go_together f.shape g.shape ≡ true
levels_alike text a i j h n f g ci cj l first last u v =
    let low : l - 100 < 10 = omega arith in
    let k = has_behind text a i (omega (arith, h, n)) f ci l u low j h in
    let fits = fits_at text a j n g cj l v low in
    together_join k.shape f.shape g.shape k.fits (subst (λ (r : Option Shape). fits_shape r g.shape ≡ true) k.slot fits)
