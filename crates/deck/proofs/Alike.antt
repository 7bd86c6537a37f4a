-- All cards of an accepted deck that define one name define it alike.
use Rattle.std.proofs.Common.{◌≡◌, ℕ, zero, suc, ◌+◌, ◌<◌, Bool, true, false, cond, not, ◌||◌, ◌⊎◌, List, [], ◌∷◌, ◌++◌, length, is_some, Some, None, Option, unwrap_or, sym, refl, ap, ◌∙◌, subst, inl, inr, le_of_suc-le-suc, not-suc-le-zero, eq-or-lt_of_le, arith}
use Rattle.std.specs.Option.{option_map}
use Rattle.std.specs.Str.{bytes_eq}
use Rattle.std.proofs.lemmas.Slice.Eq.{bytes_eq-Decides}
use Rattle.std.proofs.lemmas.List.{get_or_append_left, get_or_push, length_push}
use Rattle.std.proofs.lemmas.Bool.Decides.{nat_tests}
use Rattle.rules.specs.Finding.{first_of, place_of_name}
use Rattle.rules.specs.declared.refusal.Refusal.TheVariants.{Double}
use Rattle.cards.specs.declared.kinds.Shape.{Shape}
use Rattle.cards.specs.declared.kinds.Shape.TheVariants.{Number, Text}
use Rattle.cards.specs.declared.kinds.DeckCard.{DeckCard}
use Rattle.cards.specs.declared.kinds.DeckCard.TheVariants.{Comment, Field, Calculation}
use Rattle.fields.specs.Fields.{Fields, is_known, shape_at, shape_of, entered}
use Rattle.fields.specs.declared.Definition.{Definition}
use Rattle.deck.specs.Decks.{count, defined_by, seen_by}
use Rattle.deck.specs.Defined.{Defined, Before, define, definition_of, with_definition}
use Rattle.deck.specs.Laws.{card_in, Accepted}
use Rattle.deck.specs.Rules.{are_alike, is_like, doubles}
use Rattle.deck.proofs.Apart.{single_field, doubles_kept, found_more, found_last}
use Rattle.deck.proofs.Resolved.{not_false, passes, kept}

-- as many shapes as names
abbrev Level : Fields → Type 0
Level f = length f.names ≡ length f.shapes

-- the first place that passes a test stays where more entries follow
first_stays : {X : Type 0} (t : X → Bool) (xs ys : List X) → is_some (first_of t xs) ≡ true → first_of t (xs ++ ys) ≡ first_of t xs
first_stays t [] ys h = not_false h
first_stays t (x ∷ xs) ys h = at (t x) (first_of t xs) (first_of t (xs ++ ys)) (first_stays t xs ys) h
  where
    at : (b : Bool) (r s : Option ℕ) → (is_some r ≡ true → s ≡ r) → is_some (cond b (Some 0) (option_map suc r)) ≡ true → cond b (Some 0) (option_map suc s) ≡ cond b (Some 0) (option_map suc r)
    at true r s f k = refl
    at false None s f k = not_false k
    at false (Some i) s f k = ap (option_map suc) (f refl)

-- and one that only the last passes is the last
first_last : {X : Type 0} (t : X → Bool) (xs : List X) (x : X) → is_some (first_of t xs) ≡ false → t x ≡ true → first_of t (xs ++ x ∷ []) ≡ Some (length xs)
first_last t [] x h k = rw k refl
first_last t (y ∷ xs) x h k = at (t y) (first_of t xs) (first_of t (xs ++ x ∷ [])) (λ e. first_last t xs x e k) h
  where
    at : (b : Bool) (r s : Option ℕ) → (is_some r ≡ false → s ≡ Some (length xs)) → is_some (cond b (Some 0) (option_map suc r)) ≡ false → cond b (Some 0) (option_map suc s) ≡ Some (suc (length xs))
    at true r s f e = not_false (sym e)
    at false None s f e = ap (option_map suc) (f refl)
    at false (Some i) s f e = not_false (sym e)

-- a name that is entered
module _ (f : Fields) (m : List ℕ) (s : Shape) where
  level_entered : Level f → Level (entered f m s)
  level_entered l = at (is_known f m)
    where
      at : (b : Bool) → Level (cond b f (record { names = f.names ++ m ∷ []; shapes = f.shapes ++ s ∷ [] }))
      at true = l
      at false = length_push f.names m ∙ ap (λ (n : ℕ). n + 1) l ∙ sym (length_push f.shapes s)

  -- leaves every known name known, with its shape
  known_stays : (n : List ℕ) → is_known f n ≡ true → is_known (entered f m s) n ≡ true
  known_stays n h = at (is_known f m)
    where
      at : (b : Bool) → is_known (cond b f (record { names = f.names ++ m ∷ []; shapes = f.shapes ++ s ∷ [] })) n ≡ true
      at true = h
      at false = found_more (λ y. bytes_eq y n) f.names (m ∷ []) h

  shape_stays : Level f → (n : List ℕ) → is_known f n ≡ true → shape_of (entered f m s) n ≡ shape_of f n
  shape_stays l n h = at (is_known f m)
    where
      place : (r : Option ℕ) → is_some r ≡ true → unwrap_or r 0 < length f.names → shape_at (record { names = f.names ++ m ∷ []; shapes = f.shapes ++ s ∷ [] }) r ≡ shape_at f r
      place None k i = not_false k
      place (Some p) k i = get_or_append_left f.shapes (s ∷ []) (Text 0) p (subst (λ (w : ℕ). p < w) l i)

      at : (b : Bool) → shape_of (cond b f (record { names = f.names ++ m ∷ []; shapes = f.shapes ++ s ∷ [] })) n ≡ shape_of f n
      at true = refl
      at false =
          ap (shape_at (record { names = f.names ++ m ∷ []; shapes = f.shapes ++ s ∷ [] })) (first_stays (λ y. bytes_eq y n) f.names (m ∷ []) h)
          ∙ place (place_of_name f.names n) h (passes (λ y. bytes_eq y n) f.names [] h).0

  -- and is known itself
  known_entered : is_known (entered f m s) m ≡ true
  known_entered = at (is_known f m) refl
    where
      at : (b : Bool) → is_known f m ≡ b → is_known (cond b f (record { names = f.names ++ m ∷ []; shapes = f.shapes ++ s ∷ [] })) m ≡ true
      at true e = e
      at false e = found_last (λ y. bytes_eq y m) f.names m ((bytes_eq-Decides m m).1 refl)

  -- with its shape, if it is new
  shape_entered : Level f → is_known f m ≡ false → shape_of (entered f m s) m ≡ s
  shape_entered l h =
      ap (λ (b : Bool). shape_of (cond b f (record { names = f.names ++ m ∷ []; shapes = f.shapes ++ s ∷ [] })) m) h
      ∙ ap (shape_at (record { names = f.names ++ m ∷ []; shapes = f.shapes ++ s ∷ [] })) (first_last (λ y. bytes_eq y m) f.names m h ((bytes_eq-Decides m m).1 refl))
      ∙ get_or_push f.shapes s (Text 0) (length f.names) (sym l)

alike_self : (s : Shape) → are_alike s s ≡ true
alike_self (Number m d) = grind (arith, nat_tests)
alike_self (Text n) = grind (arith, nat_tests)

alike_join : (x a b : Shape) → are_alike x a ≡ true → are_alike x b ≡ true → are_alike a b ≡ true
alike_join (Number m d) (Number n e) (Number p g) h k = grind (arith, nat_tests)
alike_join (Number m d) (Number n e) (Text p) h k = k
alike_join (Number m d) (Text n) b h k = not_false h
alike_join (Text m) (Number n e) b h k = not_false h
alike_join (Text m) (Text n) (Number p g) h k = k
alike_join (Text m) (Text n) (Text p) h k = grind (arith, nat_tests)

-- the fields that cards define
pub fields_by : (d : Defined) (c : DeckCard) → (define d c).fields ≡ with_definition d.fields (definition_of c)
fields_by d Comment = refl
fields_by d _ = refl

level_with : (f : Fields) (o : Option Definition) → Level f → Level (with_definition f o)
level_with f None l = l
level_with f (Some d) l = level_entered f d.name d.shape l

level_by : (text : List ℕ) (k : ℕ) → Level (defined_by text k).fields
level_by text zero = refl
level_by text (suc k) =
    subst Level (sym (fields_by (defined_by text k) (card_in text k))) (level_with (defined_by text k).fields (definition_of (card_in text k)) (level_by text k))

-- a card that is no double defines its field as it is known
like_kept : (d : Defined) (b : Before) (c : DeckCard) → doubles d b c ≡ None → is_like d.fields (definition_of c) ≡ true
like_kept d b (Field f) e = (single_field d b f e).like
like_kept d b (Calculation c) e = kept Double 43 (is_like d.fields (definition_of (Calculation c))) e
like_kept d b _ e = refl

like_known : (f : Fields) (d : Definition) → is_known f d.name ≡ true → is_like f (Some d) ≡ true → are_alike (shape_of f d.name) d.shape ≡ true
like_known f d h l = at (is_known f d.name) h l
  where
    at : (b : Bool) → b ≡ true → (not b || are_alike (shape_of f d.name) d.shape) ≡ true → are_alike (shape_of f d.name) d.shape ≡ true
    at true k m = m
    at false k m = not_false k

-- a field table that knows a definition
record Knows (f : Fields) (c : Definition) : Type 0 where
  known : is_known f c.name ≡ true
  alike : are_alike (shape_of f c.name) c.shape ≡ true

-- goes on knowing it
knows_with : (f : Fields) (o : Option Definition) (c : Definition) → Level f → Knows f c → Knows (with_definition f o) c
knows_with f None c l k = k
knows_with f (Some d) c l k = record {
  known = known_stays f d.name d.shape c.name k.known;
  alike = subst (λ (s : Shape). are_alike s c.shape ≡ true) (sym (shape_stays f d.name d.shape l c.name k.known)) k.alike;
}

-- and knows one that it takes
knows_new : (f : Fields) (c : Definition) → Level f → is_like f (Some c) ≡ true → Knows (entered f c.name c.shape) c
knows_new f c l h = record { known = known_entered f c.name c.shape; alike = at (is_known f c.name) refl }
  where
    at : (b : Bool) → is_known f c.name ≡ b → are_alike (shape_of (entered f c.name c.shape) c.name) c.shape ≡ true
    at true e =
        subst (λ (s : Shape). are_alike s c.shape ≡ true) (sym (shape_stays f c.name c.shape l c.name e)) (like_known f c e h)
    at false e =
        subst (λ (s : Shape). are_alike s c.shape ≡ true) (sym (shape_entered f c.name c.shape l e)) (alike_self c.shape)

like_at : (text : List ℕ) → Accepted text → (k : ℕ) → k < count text → (c : Definition) → definition_of (card_in text k) ≡ Some c → is_like (defined_by text k).fields (Some c) ≡ true
like_at text a k h c e =
    subst (λ (o : Option Definition). is_like (defined_by text k).fields o ≡ true) e
    (like_kept (defined_by text k) (seen_by text k) (card_in text k) (doubles_kept text a k h))

-- behind a card the field table knows what it defines
known_behind : (text : List ℕ) → Accepted text → (i : ℕ) → i < count text → (c : Definition) → definition_of (card_in text i) ≡ Some c → (j : ℕ) → i < j → Knows (defined_by text j).fields c
known_behind text a i l c e zero h = absurd (not-suc-le-zero h)
known_behind text a i l c e (suc j) h =
    subst (λ (f : Fields). Knows f c) (sym (fields_by (defined_by text j) (card_in text j))) (at (eq-or-lt_of_le (le_of_suc-le-suc h)) (known_behind text a i l c e j))
  where
    at : (i ≡ j) ⊎ (i < j) → (i < j → Knows (defined_by text j).fields c) → Knows (with_definition (defined_by text j).fields (definition_of (card_in text j))) c
    at (inl p) f =
        let d : definition_of (card_in text j) ≡ Some c = subst (λ (k : ℕ). definition_of (card_in text k) ≡ Some c) p e in
        let m : j < count text = subst (λ (k : ℕ). k < count text) p l in
        subst (λ (o : Option Definition). Knows (with_definition (defined_by text j).fields o) c) (sym d)
        (knows_new (defined_by text j).fields c (level_by text j) (like_at text a j m c d))
    at (inr q) f = knows_with (defined_by text j).fields (definition_of (card_in text j)) c (level_by text j) (f q)

pub defined_alike : (text : List ℕ) → Accepted text → (i j : ℕ) → i < j → j < count text → (c d : Definition) → definition_of (card_in text i) ≡ Some c → definition_of (card_in text j) ≡ Some d → c.name ≡ d.name → are_alike c.shape d.shape ≡ true
defined_alike text a i j h l c d ci cj e =
    let f = (defined_by text j).fields in
    let k = known_behind text a i (omega (arith, h, l)) c ci j h in
    alike_join (shape_of f d.name) c.shape d.shape (subst (λ (n : List ℕ). are_alike (shape_of f n) c.shape ≡ true) e k.alike)
    (like_known f d (subst (λ (n : List ℕ). is_known f n ≡ true) e k.known) (like_at text a j l d cj))
