-- The steps of a sweep over places, and the first entry of one list after another.
use Rattle.std.proofs.Common.{◌≡◌, ℕ, ◌+◌, ◌<◌, ◌≤◌, false, List, [], ◌∷◌, ◌++◌, map, length, drop, get_or, Some, None, Err, Option, Result, sym, refl, ap, ◌∙◌, subst, arith}
use Rattle.std.specs.List.{range_with_len}
use Rattle.std.proofs.lemmas.List.FromFn.{get_or-map-range_with_len, length-map-range_with_len}
use Rattle.std.proofs.lemmas.List.{at_drop_more, at_drop_all}
use Rattle.std.proofs.lemmas.Bool.Decides.{nat_tests}
use Rattle.std.proofs.lemmas.Option.{none-some}
use Rattle.rules.specs.Rules.{first, IsFirst}
use Rattle.rules.proofs.Firsts.{first-none, first_some}
use Rattle.fields.specs.Fields.{Fields}
use Rattle.deck.specs.declared.kinds.Breach.{Breach}
use Rattle.deck.specs.declared.kinds.ReadError.{ReadError}
use Rattle.deck.specs.declared.kinds.ReadError.TheVariants.{Refused, NoMemory}
use Rattle.deck.specs.Acted.{Acted}
use Rattle.deck.specs.Decks.{card_at, cards, count, is_cut, cut, rules, first_sweep, second_sweep, defined_by, seen_by, acted_by, fields_in, Table, deck_of}
use Rattle.deck.specs.Defined.{Defined, Before}
use Rattle.deck.specs.Steps.{DoneUnless, Takes, TakenIn, AllTakenIn, LooksUp, LookedUp, AllLookedUp, Filled}

module _ {X : Type 0} where
  first_after : (xs ys : List (Option X)) → first xs ≡ None → first (xs ++ ys) ≡ first ys
  first_after [] ys e = refl
  first_after (None ∷ xs) ys e = first_after xs ys e
  first_after (Some x ∷ xs) ys e = absurd (none-some x (sym e))

  first-within : (xs ys : List (Option X)) (b : X) → first xs ≡ Some b → first (xs ++ ys) ≡ Some b
  first-within [] ys b e = absurd (none-some b e)
  first-within (None ∷ xs) ys b e = first-within xs ys b e
  first-within (Some x ∷ xs) ys b e = e

-- one step of a sweep, of which what is still to be told from place k on is the first telling of all
module _ (tell : ℕ → Option Breach) (k n : ℕ) (inside : k < n) (to-come : first (drop k (map tell (range_with_len 0 n))) ≡ first (map tell (range_with_len 0 n))) where
  next : first (tell k ∷ drop (k + 1) (map tell (range_with_len 0 n))) ≡ first (map tell (range_with_len 0 n))
  next =
      let all = map tell (range_with_len 0 n) in
      let h : k < length all = subst (λ (m : ℕ). k < m) (sym (length-map-range_with_len tell 0 n)) inside in
      ap (λ (r : Option Breach). first (r ∷ drop (k + 1) all)) (sym (get_or-map-range_with_len tell 0 n k k None inside (omega arith)))
      ∙ sym (at_drop_more first all k None h) ∙ to-come

  pub stopped : (e : ReadError) → DoneUnless (tell k) (Unit {0}) (Err e) → DoneUnless (first (map tell (range_with_len 0 n))) (Unit {0}) (Err e)
  stopped (Refused b) t = sym (rw t at next)
  stopped NoMemory t = tt

  pub went_on : tell k ≡ None → first (drop (k + 1) (map tell (range_with_len 0 n))) ≡ first (map tell (range_with_len 0 n))
  went_on t = rw t at next

-- a sweep that is over
pub swept : {S : Type 0} (tell : ℕ → Option Breach) (by_place : ℕ → S) (k n : ℕ) (s : S) → k ≡ n
    → first (drop k (map tell (range_with_len 0 n))) ≡ first (map tell (range_with_len 0 n)) → s ≡ by_place k
    → (first (map tell (range_with_len 0 n)) ≡ None) × (s ≡ by_place n)
swept tell by_place k n s e to-come is = (
  sym to-come ∙ at_drop_all first (map tell (range_with_len 0 n)) k (omega (arith, e, length-map-range_with_len tell 0 n)),
  is ∙ ap by_place e,
)

-- the cards of a text
module _ (text : List ℕ) (cs : List (List ℕ)) (all : cs ≡ cards text) where
  pub as_many : length cs ≡ count text
  as_many = ap length all ∙ length-map-range_with_len (card_at text) 0 (count text)

  module _ (k : ℕ) (inside : k < length cs) where
    pub within : k < count text
    within = subst (λ (n : ℕ). k < n) as_many inside

    pub few : is_cut text ≡ false → k < 256
    few whole = let h : length text ≤ 20480 = grind (arith, nat_tests) in omega (arith, within, h)

    card_is : get_or cs k [] ≡ card_at text k
    card_is = ap (λ xs. get_or xs k []) all ∙ get_or-map-range_with_len (card_at text) 0 (count text) k k [] within (omega arith)

    pub taken : (d : Defined) (b : Before) (r : Result (Unit {0}) ReadError) (e : Defined) (s : Before) → d ≡ defined_by text k → b ≡ seen_by text k
        → Takes d b k (get_or cs k []) r e s → TakenIn text k r e s
    taken d b r e s p q t = rw (p, q, card_is) at t

    pub looked : (f : Fields) (a : Acted) (r : Result (Unit {0}) ReadError) (b : Acted) → f ≡ fields_in text → a ≡ acted_by text k
        → LooksUp f a k (get_or cs k []) r b → LookedUp text k r b
    looked f a r b p q t = rw (p, q, card_is) at t

-- the whole deck
module _ (text : List ℕ) (whole : cut text ≡ None) where
  in_sweeps : first (rules text) ≡ first (first_sweep text ++ second_sweep text)
  in_sweeps = ap (λ (s : Option Breach). first (s ∷ (first_sweep text ++ second_sweep text))) whole

  pub told_first : (e : ReadError) (d : Defined) (t : Table) → AllTakenIn text (Err e) d → Filled text (Err e) t
  told_first (Refused b) d t s = first_some (rules text) b (in_sweeps ∙ first-within (first_sweep text) (second_sweep text) b s)
  told_first NoMemory d t s = tt

  pub told_second : (e : ReadError) (a : Acted) (t : Table) → first (first_sweep text) ≡ None → AllLookedUp text (Err e) a → Filled text (Err e) t
  told_second (Refused b) a t u v = first_some (rules text) b (in_sweeps ∙ first_after (first_sweep text) (second_sweep text) u ∙ v)
  told_second NoMemory a t u v = tt

  pub told_none : first (first_sweep text) ≡ None → first (second_sweep text) ≡ None → IsFirst (rules text) None
  told_none u v = first-none (rules text) (in_sweeps ∙ first_after (first_sweep text) (second_sweep text) u ∙ v)

pub told_cut : (text : List ℕ) (b : Breach) → Some b ≡ cut text → IsFirst (rules text) (Some b)
told_cut text b e = first_some (rules text) b (ap (λ (s : Option Breach). first (s ∷ (first_sweep text ++ second_sweep text))) (sym e))

-- the table of a deck, by its parts
pub table_is : (text u : List ℕ) (d : Defined) (a : Acted) → u ≡ text → d ≡ defined_by text (count text) → a ≡ acted_by text (count text)
    → ◌≡◌ {A = Table} (record { text = u; defined = d; acted = a }) (deck_of text)
table_is text u d a p q r = cc
