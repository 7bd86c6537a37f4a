-- No two record types of an accepted deck have one indicator, and no two fields of a record type one name or level.
use Rattle.std.proofs.Common.{◌≡◌, ℕ, zero, suc, ◌<◌, Bool, true, false, cond, not, ◌&&◌, eqb, ◌⊎◌, List, [], ◌∷◌, ◌++◌, length, is_some, Some, None, Option, sym, refl, ◌∙◌, subst, inl, inr, le_of_suc-le-suc, not-suc-le-zero, eq-or-lt_of_le, arith}
use Rattle.std.specs.Option.{option_map, option_to_list}
use Rattle.std.specs.Str.{bytes_eq}
use Rattle.std.proofs.lemmas.List.FromFn.{get_or-map-range_with_len, length-map-range_with_len}
use Rattle.std.proofs.lemmas.Slice.Eq.{bytes_eq-Decides}
use Rattle.std.proofs.lemmas.List.{get_or_append_left}
use Rattle.std.proofs.lemmas.Bool.{both_ways, not-true, eq-eqb, and_parts}
use Rattle.rules.specs.Finding.{first_of, place_of_name, place_of_indicator}
use Rattle.rules.specs.Rules.{rule, first}
use Rattle.rules.specs.declared.refusal.Refusal.TheVariants.{Double}
use Rattle.cards.specs.declared.kinds.RecordCard.{RecordCard}
use Rattle.cards.specs.declared.kinds.FieldCard.{FieldCard}
use Rattle.cards.specs.declared.kinds.DeckCard.{DeckCard}
use Rattle.cards.specs.declared.kinds.DeckCard.TheVariants.{Record, Field}
use Rattle.cards.specs.Layouts.{layout_of}
use Rattle.cards.specs.Punches as punches
use Rattle.cards.specs.Punches.{kind_of}
use Rattle.deck.specs.Decks.{card_at, count, first_telling, first_at, first_sweep, second_sweep, defined_by, seen_by}
use Rattle.deck.specs.Defined.{Defined, Before, definition_of, see}
use Rattle.deck.specs.Laws.{card_in, SameType, rank_at, Accepted}
use Rattle.deck.specs.Rules.{is_like, is_new_level, fits_level, full, doubles}
use Rattle.deck.proofs.Resolved.{not_false, kept_head, kept_rest, kept, unnumbered}

-- in an accepted deck no card tells anything in the first sweep
pub first_kept : (text : List ℕ) → Accepted text → (k : ℕ) → k < count text → first_at text k ≡ None
first_kept text a k h =
    let l : k < length (first_sweep text) = subst (λ (n : ℕ). k < n) (sym (length-map-range_with_len (first_at text) 0 (count text))) h in
    sym (get_or-map-range_with_len (first_at text) 0 (count text) k k None h (omega arith))
    ∙ sym (get_or_append_left (first_sweep text) (second_sweep text) None k l)
    ∙ a (suc k)

-- and so neither a full table nor a double
rules_kept : (text : List ℕ) → Accepted text → (k : ℕ) → k < count text → first (full (defined_by text k) (seen_by text k) (card_in text k) ∷ doubles (defined_by text k) (seen_by text k) (card_in text k) ∷ []) ≡ None
rules_kept text a k h =
    let d = defined_by text k in
    let b = seen_by text k in
    let c = card_in text k in
    let p = punches.first_of b.highest (card_at text k) (layout_of (kind_of (card_at text k))) in
    kept_rest p (full d b c ∷ doubles d b c ∷ []) (unnumbered k (first_telling d b (card_at text k)) (first_kept text a k h))

pub full_kept : (text : List ℕ) → Accepted text → (k : ℕ) → k < count text → full (defined_by text k) (seen_by text k) (card_in text k) ≡ None
full_kept text a k h = kept_head (full (defined_by text k) (seen_by text k) (card_in text k)) (doubles (defined_by text k) (seen_by text k) (card_in text k) ∷ []) (rules_kept text a k h)

pub doubles_kept : (text : List ℕ) → Accepted text → (k : ℕ) → k < count text → doubles (defined_by text k) (seen_by text k) (card_in text k) ≡ None
doubles_kept text a k h =
    let d = defined_by text k in
    let b = seen_by text k in
    let c = card_in text k in
    kept_head (doubles d b c) [] (kept_rest (full d b c) (doubles d b c ∷ []) (rules_kept text a k h))

-- what is found stays found where more entries follow
module _ {X : Type 0} (t : X → Bool) where
  pub found_more : (xs ys : List X) → is_some (first_of t xs) ≡ true → is_some (first_of t (xs ++ ys)) ≡ true
  found_more [] ys h = not_false h
  found_more (x ∷ xs) ys h = at (t x) (first_of t xs) (first_of t (xs ++ ys)) (found_more xs ys) h
    where
      at : (b : Bool) (r s : Option ℕ) → (is_some r ≡ true → is_some s ≡ true) → is_some (cond b (Some 0) (option_map suc r)) ≡ true → is_some (cond b (Some 0) (option_map suc s)) ≡ true
      at true r s f k = refl
      at false None s f k = not_false k
      at false (Some i) None f k = not_false (f refl)
      at false (Some i) (Some j) f k = refl

  -- and the last is found, if no other is
  pub found_last : (xs : List X) (x : X) → t x ≡ true → is_some (first_of t (xs ++ x ∷ [])) ≡ true
  found_last [] x h = rw h refl
  found_last (y ∷ xs) x h = at (t y) (first_of t (xs ++ x ∷ [])) (found_last xs x h)
    where
      at : (b : Bool) (r : Option ℕ) → is_some r ≡ true → is_some (cond b (Some 0) (option_map suc r)) ≡ true
      at true r k = refl
      at false None k = not_false k
      at false (Some i) k = refl

-- what was seen of a card is still seen behind it, where a step keeps it on all cards between
module _ {X : Type 0} (t : X → Bool) (items : Before → List X) (P : DeckCard → Type 0)
    (still : (b : Before) (rank : ℕ) (c : DeckCard) → P c → is_some (first_of t (items b)) ≡ true → is_some (first_of t (items (see b rank c))) ≡ true)
    (text : List ℕ) (i : ℕ) (new : (b : Before) (rank : ℕ) → is_some (first_of t (items (see b rank (card_in text i)))) ≡ true) where
  seen : (j : ℕ) → i < j → ((k : ℕ) → i < k → k < j → P (card_in text k)) → is_some (first_of t (items (seen_by text j))) ≡ true
  seen zero h p = absurd (not-suc-le-zero h)
  seen (suc j) h p = at (eq-or-lt_of_le (le_of_suc-le-suc h)) (λ l. seen j l (λ k m n. p k m (omega (arith, n))))
    where
      at : (i ≡ j) ⊎ (i < j) → (i < j → is_some (first_of t (items (seen_by text j))) ≡ true) → is_some (first_of t (items (see (seen_by text j) (rank_at text j) (card_in text j)))) ≡ true
      at (inl e) f = subst (λ (k : ℕ). is_some (first_of t (items (see (seen_by text j) (rank_at text j) (card_in text k)))) ≡ true) e (new (seen_by text j) (rank_at text j))
      at (inr l) f = still (seen_by text j) (rank_at text j) (card_in text j) (p j l (omega arith)) (f l)

-- the indicators of record cards, and in a record type the names and levels of its fields
indicator_still : (n : ℕ) (b : Before) (rank : ℕ) (c : DeckCard) → Unit {0} → is_some (place_of_indicator b.indicators n) ≡ true → is_some (place_of_indicator (see b rank c).indicators n) ≡ true
indicator_still n b rank (Record r) u h = found_more (λ y. eqb y n) b.indicators (r.indicator ∷ []) h
indicator_still n b rank _ u h = h

abbrev NoRecord : DeckCard → Type 0
NoRecord c = (r : RecordCard) → c ≡ Record r → ⊥

name_still : (n : List ℕ) (b : Before) (rank : ℕ) (c : DeckCard) → NoRecord c → is_some (place_of_name b.names n) ≡ true → is_some (place_of_name (see b rank c).names n) ≡ true
name_still n b rank (Record r) u h = absurd (u r refl)
name_still n b rank (Field f) u h = found_more (λ y. bytes_eq y n) b.names (f.name ∷ []) h
name_still n b rank _ u h = h

level_still : (n : ℕ) (b : Before) (rank : ℕ) (c : DeckCard) → NoRecord c → is_some (place_of_indicator b.levels n) ≡ true → is_some (place_of_indicator (see b rank c).levels n) ≡ true
level_still n b rank (Record r) u h = absurd (u r refl)
level_still n b rank (Field f) u h = found_more (λ y. eqb y n) b.levels (option_to_list f.level) h
level_still n b rank _ u h = h

indicator_seen : (text : List ℕ) (i j : ℕ) → i < j → (r : RecordCard) → card_in text i ≡ Record r → is_some (place_of_indicator (seen_by text j).indicators r.indicator) ≡ true
indicator_seen text i j h r e =
    seen (λ y. eqb y r.indicator) (λ b. b.indicators) (λ _. Unit {0}) (indicator_still r.indicator) text i
    (λ b rank. subst (λ (c : DeckCard). is_some (place_of_indicator (see b rank c).indicators r.indicator) ≡ true) (sym e) (found_last (λ y. eqb y r.indicator) b.indicators r.indicator (eq-eqb r.indicator r.indicator refl)))
    j h (λ k m n. tt)

name_seen : (text : List ℕ) (i j : ℕ) → i < j → SameType text i j → (f : FieldCard) → card_in text i ≡ Field f → is_some (place_of_name (seen_by text j).names f.name) ≡ true
name_seen text i j h s f e =
    seen (λ y. bytes_eq y f.name) (λ b. b.names) NoRecord (name_still f.name) text i
    (λ b rank. subst (λ (c : DeckCard). is_some (place_of_name (see b rank c).names f.name) ≡ true) (sym e) (found_last (λ y. bytes_eq y f.name) b.names f.name ((bytes_eq-Decides f.name f.name).1 refl)))
    j h s

level_new : (b : Before) (rank l : ℕ) (f : FieldCard) → f.level ≡ Some l → is_some (place_of_indicator (see b rank (Field f)).levels l) ≡ true
level_new b rank l f e =
    subst (λ (o : Option ℕ). is_some (place_of_indicator (b.levels ++ option_to_list o) l) ≡ true) (sym e) (found_last (λ y. eqb y l) b.levels l (eq-eqb l l refl))

level_seen : (text : List ℕ) (i j : ℕ) → i < j → SameType text i j → (f : FieldCard) → card_in text i ≡ Field f → (l : ℕ) → f.level ≡ Some l → is_some (place_of_indicator (seen_by text j).levels l) ≡ true
level_seen text i j h s f e l v =
    seen (λ y. eqb y l) (λ b. b.levels) NoRecord (level_still l) text i
    (λ b rank. subst (λ (c : DeckCard). is_some (place_of_indicator (see b rank c).levels l) ≡ true) (sym e) (level_new b rank l f v))
    j h s

pub types_apart : (text : List ℕ) → Accepted text → (i j : ℕ) → i < j → j < count text → (r s : RecordCard) → card_in text i ≡ Record r → card_in text j ≡ Record s → r.indicator ≡ s.indicator → ⊥
types_apart text a i j h l r s ci cj e =
    let d = defined_by text j in
    let b = seen_by text j in
    let told = subst (λ (c : DeckCard). doubles d b c ≡ None) cj (doubles_kept text a j l) in
    let seen_before = is_some (place_of_indicator b.indicators s.indicator) in
    both_ways seen_before (not-true seen_before (kept Double 19 (not seen_before) told))
    (subst (λ (n : ℕ). is_some (place_of_indicator b.indicators n) ≡ true) e (indicator_seen text i j h r ci))

-- a field card that is no double defines its field as it is known, has a new name and a new level, and fits its level
pub record SingleField (d : Defined) (b : Before) (g : FieldCard) : Type 0 where
  pub like : is_like d.fields (definition_of (Field g)) ≡ true
  pub new_name : not (is_some (place_of_name b.names g.name)) ≡ true
  pub new_level : is_new_level b.levels g.level ≡ true
  pub fits : fits_level d.levels g.level g.shape ≡ true

pub single_field : (d : Defined) (b : Before) (g : FieldCard) → doubles d b (Field g) ≡ None → SingleField d b g
single_field d b g e =
    let name = is_like d.fields (definition_of (Field g)) && not (is_some (place_of_name b.names g.name)) in
    let level = is_new_level b.levels g.level && fits_level d.levels g.level g.shape in
    let n = and_parts (is_like d.fields (definition_of (Field g))) _ (kept Double 53 name (kept_head (rule Double 53 name) (rule Double 59 level ∷ []) e)) in
    let l = and_parts (is_new_level b.levels g.level) _ (kept Double 59 level (kept_head (rule Double 59 level) [] (kept_rest (rule Double 53 name) (rule Double 59 level ∷ []) e))) in
    record { like = n.0; new_name = n.1; new_level = l.0; fits = l.1 }

pub names_once : (text : List ℕ) → Accepted text → (i j : ℕ) → i < j → j < count text → SameType text i j → (f g : FieldCard) → card_in text i ≡ Field f → card_in text j ≡ Field g → f.name ≡ g.name → ⊥
names_once text a i j h l s f g ci cj e =
    let d = defined_by text j in
    let b = seen_by text j in
    let told = subst (λ (c : DeckCard). doubles d b c ≡ None) cj (doubles_kept text a j l) in
    let seen_before = is_some (place_of_name b.names g.name) in
    both_ways seen_before (not-true seen_before (single_field d b g told).new_name)
    (subst (λ (n : List ℕ). is_some (place_of_name b.names n) ≡ true) e (name_seen text i j h s f ci))

pub levels_once : (text : List ℕ) → Accepted text → (i j : ℕ) → i < j → j < count text → SameType text i j → (f g : FieldCard) → card_in text i ≡ Field f → card_in text j ≡ Field g → (n : ℕ) → f.level ≡ Some n → g.level ≡ Some n → ⊥
levels_once text a i j h l s f g ci cj n u v =
    let d = defined_by text j in
    let b = seen_by text j in
    let told = subst (λ (c : DeckCard). doubles d b c ≡ None) cj (doubles_kept text a j l) in
    let seen_before = is_some (place_of_indicator b.levels n) in
    both_ways seen_before (not-true seen_before (subst (λ (o : Option ℕ). is_new_level b.levels o ≡ true) v (single_field d b g told).new_level))
    (level_seen text i j h s f ci n u)
