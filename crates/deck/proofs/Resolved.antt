-- Names that a card of an accepted deck uses are found.
use Rattle.std.proofs.Common.{◌≡◌, ℕ, suc, ◌+◌, ◌<◌, Bool, true, false, cond, List, [], ◌∷◌, length, get_or, is_some, Some, None, Option, unwrap_or, sym, refl, ◌∙◌, subst, inl, inr, arith}
use Rattle.std.specs.Option.{option_map}
use Rattle.std.specs.Str.{bytes_eq}
use Rattle.std.proofs.lemmas.List.FromFn.{get_or-map-range_with_len}
use Rattle.std.proofs.lemmas.Slice.Eq.{bytes_eq-Decides}
use Rattle.std.proofs.lemmas.List.{get_or-append-add}
use Rattle.std.proofs.lemmas.Bool.{false≢true}
use Rattle.std.proofs.lemmas.Option.{none-some}
use Rattle.rules.specs.Finding.{first_of}
use Rattle.rules.specs.Rules as column
use Rattle.rules.specs.Rules.{first, rule}
use Rattle.rules.specs.declared.refusal.Refusal.{Refusal}
use Rattle.rules.specs.declared.refusal.Refusal.TheVariants.{Unknown}
use Rattle.cards.specs.declared.kinds.DeckCard.{DeckCard}
use Rattle.cards.specs.declared.kinds.DeckCard.TheVariants.{Calculation, OutputField}
use Rattle.fields.specs.Fields.{Fields, is_known}
use Rattle.uses.specs.Uses.{factor_name, printed_name, knows, unknowns, kinds, uses_told}
use Rattle.deck.specs.Decks.{count, fields_in, numbered, second_at, first_sweep, second_sweep}
use Rattle.deck.specs.Laws.{card_in, UsesName, Finds, Accepted}

pub not_false : {P : Type 0} → false ≡ true → P
not_false e = absurd (false≢true e)

-- the first place that passes a test is one of the list, and passes it
pub passes : {X : Type 0} (t : X → Bool) (xs : List X) (d : X) → is_some (first_of t xs) ≡ true
    → (unwrap_or (first_of t xs) 0 < length xs) × (t (get_or xs (unwrap_or (first_of t xs) 0) d) ≡ true)
passes t [] d h = not_false h
passes t (x ∷ xs) d h = at (t x) refl (first_of t xs) (passes t xs d) h
  where
    at : (b : Bool) → t x ≡ b → (r : Option ℕ) → (is_some r ≡ true → (unwrap_or r 0 < length xs) × (t (get_or xs (unwrap_or r 0) d) ≡ true))
        → is_some (cond b (Some 0) (option_map suc r)) ≡ true
        → (unwrap_or (cond b (Some 0) (option_map suc r)) 0 < length (x ∷ xs)) × (t (get_or (x ∷ xs) (unwrap_or (cond b (Some 0) (option_map suc r)) 0) d) ≡ true)
    at true e r f k = (omega arith, e)
    at false e None f k = not_false k
    at false e (Some i) f k = let p = f refl in (omega (arith, p.0), p.1)

finds : (f : Fields) (n : List ℕ) → is_known f n ≡ true → Finds f n
finds f n h =
    let p = passes (λ y. bytes_eq y n) f.names [] h in
    record { within = p.0; named = (bytes_eq-Decides _ n).0 p.1 }

-- no rule of a list tells anything where the first telling is none
pub kept_head : {X : Type 0} (r : Option X) (rs : List (Option X)) → first (r ∷ rs) ≡ None → r ≡ None
kept_head None rs e = refl
kept_head (Some x) rs e = e

pub kept_rest : {X : Type 0} (r : Option X) (rs : List (Option X)) → first (r ∷ rs) ≡ None → first rs ≡ None
kept_rest None rs e = e
kept_rest (Some x) rs e = absurd (none-some x (sym e))

pub kept : (refusal : Refusal) (at : ℕ) (b : Bool) → rule refusal at b ≡ None → b ≡ true
kept refusal at true e = refl
kept refusal at false e = absurd (none-some (refusal, at) (sym e))

is_known_by : (f : Fields) (m : Option (List ℕ)) (n : List ℕ) → m ≡ Some n → knows f m ≡ true → is_known f n ≡ true
is_known_by f m n u k = subst (λ (x : Option (List ℕ)). knows f x ≡ true) u k

-- a card that tells no unknown name uses known ones
known : (f : Fields) (c : DeckCard) (n : List ℕ) → unknowns f c ≡ None → UsesName c n → is_known f n ≡ true
known f (Calculation c) n e u = by u
  where
    entry : (at : ℕ) (m : Option (List ℕ)) → m ≡ Some n → rule Unknown at (knows f m) ≡ None → is_known f n ≡ true
    entry at m s k = is_known_by f m n s (kept Unknown at (knows f m) k)

    behind : first (rule Unknown 33 (knows f (factor_name c.factor2)) ∷ rule Unknown 43 (knows f c.result) ∷ []) ≡ None
    behind = kept_rest (rule Unknown 18 (knows f c.factor1)) (rule Unknown 33 (knows f (factor_name c.factor2)) ∷ rule Unknown 43 (knows f c.result) ∷ []) e

    by : UsesName (Calculation c) n → is_known f n ≡ true
    by (inl s) = entry 18 c.factor1 s (kept_head (rule Unknown 18 (knows f c.factor1)) (rule Unknown 33 (knows f (factor_name c.factor2)) ∷ rule Unknown 43 (knows f c.result) ∷ []) e)
    by (inr (inl s)) = entry 33 (factor_name c.factor2) s (kept_head (rule Unknown 33 (knows f (factor_name c.factor2))) (rule Unknown 43 (knows f c.result) ∷ []) behind)
    by (inr (inr s)) = entry 43 c.result s (kept_head (rule Unknown 43 (knows f c.result)) [] (kept_rest (rule Unknown 33 (knows f (factor_name c.factor2))) (rule Unknown 43 (knows f c.result) ∷ []) behind))
known f (OutputField o) n e u = is_known_by f (printed_name o.printed) n u (kept Unknown 32 (knows f (printed_name o.printed)) e)
known f _ n e u = absurd u

pub unnumbered : (k : ℕ) (b : Option column.Breach) → numbered k b ≡ None → b ≡ None
unnumbered k None e = refl
unnumbered k (Some b) e = absurd (none-some (record { refusal = b.0; card = k + 1; column = b.1 }) (sym e))

-- in an accepted deck no card tells anything in the second sweep
second_kept : (text : List ℕ) → Accepted text → (k : ℕ) → k < count text → second_at text k ≡ None
second_kept text a k h =
    sym (get_or-map-range_with_len (second_at text) 0 (count text) k k None h (omega arith))
    ∙ sym (get_or-append-add (first_sweep text) (second_sweep text) k None)
    ∙ a (suc (length (first_sweep text) + k))

pub names_found : (text : List ℕ) → Accepted text → (k : ℕ) → k < count text → (n : List ℕ) → UsesName (card_in text k) n → Finds (fields_in text) n
names_found text a k h n u =
    let f = fields_in text in
    let c = card_in text k in
    let told = unnumbered k (uses_told f c) (second_kept text a k h) in
    finds f n (known f c n (kept_head (unknowns f c) (kinds f c ∷ []) told) u)
