-- An accepted deck has no more fields and record types than it may.
use Rattle.std.proofs.Common.{◌≡◌, ℕ, zero, suc, ◌+◌, ◌<◌, ◌≤◌, Bool, true, false, cond, ◌||◌, ltb, List, [], ◌∷◌, ◌++◌, length, Some, None, Option, sym, refl, ap, ◌∙◌, subst, le_refl, arith, lit≤}
use Rattle.std.proofs.lemmas.List.{length_push}
use Rattle.std.proofs.lemmas.Bool.Decides.{nat_tests}
use Rattle.rules.specs.declared.refusal.Refusal.TheVariants.{TableFull}
use Rattle.cards.specs.declared.kinds.DeckCard.{DeckCard}
use Rattle.cards.specs.declared.kinds.DeckCard.TheVariants.{Record, Field, Calculation}
use Rattle.fields.specs.Fields.{Fields, is_known}
use Rattle.fields.specs.declared.Definition.{Definition}
use Rattle.deck.specs.Decks.{count, fields_in, defined_by, seen_by}
use Rattle.deck.specs.Defined.{Defined, Before, define, definition_of, type_of, with_definition, see}
use Rattle.deck.specs.Laws.{card_in, rank_at, Accepted}
use Rattle.deck.specs.Rules.{has_place, full}
use Rattle.deck.proofs.Alike.{fields_by}
use Rattle.deck.proofs.Apart.{full_kept}
use Rattle.deck.proofs.Resolved.{kept}

-- a card that tells no full table finds a place for its field
place_kept : (d : Defined) (b : Before) (c : DeckCard) → full d b c ≡ None → has_place d.fields (definition_of c) ≡ true
place_kept d b (Field f) e = kept TableFull 0 (has_place d.fields (definition_of (Field f))) e
place_kept d b (Calculation c) e = kept TableFull 0 (has_place d.fields (definition_of (Calculation c))) e
place_kept d b _ e = refl

few_with : (f : Fields) (o : Option Definition) → length f.names ≤ 64 → has_place f o ≡ true → length (with_definition f o).names ≤ 64
few_with f None h k = h
few_with f (Some d) h k = at (is_known f d.name) k
  where
    at : (b : Bool) → (b || ltb (length f.names) 64) ≡ true → length (cond b f (record { names = f.names ++ d.name ∷ []; shapes = f.shapes ++ d.shape ∷ [] })).names ≤ 64
    at true l = h
    at false l =
        let less : length f.names < 64 = grind (arith, nat_tests) in
        subst (λ (n : ℕ). n ≤ 64) (sym (length_push f.names d.name)) (omega (arith, less))

fields_few : (text : List ℕ) → Accepted text → (k : ℕ) → k ≤ count text → length (defined_by text k).fields.names ≤ 64
fields_few text a zero h = lit≤ tt
fields_few text a (suc k) h =
    let d = defined_by text k in
    subst (λ (f : Fields). length f.names ≤ 64) (sym (fields_by d (card_in text k)))
    (few_with d.fields (definition_of (card_in text k)) (fields_few text a k (omega (arith, h))) (place_kept d (seen_by text k) (card_in text k) (full_kept text a k h)))

pub few_fields : (text : List ℕ) → Accepted text → length (fields_in text).names ≤ 64
few_fields text a = fields_few text a (count text) (le_refl (count text))

-- as many record types are defined as record cards are seen
same_by : (d : Defined) (b : Before) (rank : ℕ) (c : DeckCard) → length d.types ≡ length b.indicators → length (define d c).types ≡ length (see b rank c).indicators
same_by d b rank (Record r) h = length_push d.types (type_of (length d.inputs) r) ∙ ap (λ (n : ℕ). n + 1) h ∙ sym (length_push b.indicators r.indicator)
same_by d b rank _ h = h

same : (text : List ℕ) (k : ℕ) → length (defined_by text k).types ≡ length (seen_by text k).indicators
same text zero = refl
same text (suc k) = same_by (defined_by text k) (seen_by text k) (rank_at text k) (card_in text k) (same text k)

few_by : (d : Defined) (b : Before) (rank : ℕ) (c : DeckCard) → full d b c ≡ None → length b.indicators ≤ 16 → length (see b rank c).indicators ≤ 16
few_by d b rank (Record r) e h =
    let test = kept TableFull 0 (ltb (length b.indicators) 16) e in
    let less : length b.indicators < 16 = grind (arith, nat_tests) in
    subst (λ (n : ℕ). n ≤ 16) (sym (length_push b.indicators r.indicator)) (omega (arith, less))
few_by d b rank _ e h = h

types_few : (text : List ℕ) → Accepted text → (k : ℕ) → k ≤ count text → length (seen_by text k).indicators ≤ 16
types_few text a zero h = lit≤ tt
types_few text a (suc k) h =
    few_by (defined_by text k) (seen_by text k) (rank_at text k) (card_in text k) (full_kept text a k h) (types_few text a k (omega (arith, h)))

pub few_types : (text : List ℕ) → Accepted text → length (defined_by text (count text)).types ≤ 16
few_types text a = subst (λ (n : ℕ). n ≤ 16) (sym (same text (count text))) (types_few text a (count text) (le_refl (count text)))
