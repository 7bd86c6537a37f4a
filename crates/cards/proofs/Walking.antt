-- The first breach that the rules of a layout tell, from a run over them.
use Rattle.std.proofs.Common.{◌≡◌, ℕ, zero, suc, ◌+◌, ◌<◌, ◌≤◌, true, List, [], ◌∷◌, length, get_or, drop, Some, None, Option, MatchOption, option_map, IfSome, IsSomeAnd, Bor, refl, sym, ◌∙◌, arith}
use denote.Param.Members.{Mut, Called}
use native.Mathlib.Numerals.{unary_clauses}
use Rattle.std.proofs.lemmas.List.{at_drop_more, at_drop_all}
use Rattle.std.specs.Iterator.Runs.{Run, SomeRun, ItemsMapTo, AllItemsGive, IsFirstToGive}
use Rattle.rules.specs.Rules.{Breach, first}
use Rattle.cards.specs.declared.kinds.Rule.{Rule}
use Rattle.cards.specs.Punches.{tells, first_of}

first_alone : (r : Option Breach) → first (r ∷ []) ≡ r
first_alone None = refl
first_alone (Some b) = refl

module _ (highest : ℕ) (c : List ℕ) where
  -- what a rule tells
  abbrev pub told : Rule → Option Breach
  told r = tells highest c r.what r.from r.to

  -- what a call answers at an item, where the item is the rule r
  answered : (C : Bor Rule → Option Breach → Type 0) → ((x : Bor Rule) (o : Option Breach) → C x o → o ≡ told x.now) → (o : Option (Bor Rule)) (r : Rule) (q : Option Breach) → option_map (λ y. y.now) o ≡ Some r → IfSome o (λ x. C x q) → q ≡ told r
  answered C is None r q e h = cc
  answered C is (Some x) r q e h = let t = is x q h in cc

  there : (o : Option (Bor Rule)) (P : Bor Rule → Type 0) → IsSomeAnd o P → IfSome o P
  there None P h = absurd h
  there (Some x) P h = h

  module _ (rs : List Rule) (d : Rule) where
    -- rules that are kept leave the answer to those behind them
    kept : (i : ℕ) → i ≤ length rs → ((k : ℕ) → k < i → None ≡ told (get_or rs k d)) → first_of highest c rs ≡ first_of highest c (drop i rs)
    kept zero h e = refl
    kept (suc i) h e =
        let here : None ≡ told (get_or rs i d) = e i (omega arith) in
        let step : first_of highest c (drop i rs) ≡ first_of highest c (drop (i + 1) rs) = at_drop_more (first_of highest c) rs i d (omega arith) ∙ rw (← here) (first_alone (first_of highest c (drop (i + 1) rs))) in
        kept i (omega arith) (λ k l. e k (omega arith)) ∙ simp unary_clauses at step

    module _ {S F : Type 0} {steps : S → Option (Bor Rule) → S → Type 0} (g : Mut F (Bor Rule × Unit {0}) (Option Breach)) (f : F) (is : (x : Bor Rule) (o : Option Breach) (q : F) → Called g f (x, tt) o q → (q ≡ f) × (o ≡ told x.now)) where
      by_places : (p : Run steps) → ItemsMapTo p (λ y. y.now) rs → (r : Option Breach) → MatchOption r ((p.whole ≡ true) × AllItemsGive p g f None) (λ b. (i : ℕ) × (i < p.len) × (p.len ≡ i + 1) × IsFirstToGive p g f (Some b) None i) → r ≡ first_of highest c rs
      by_places p m None h =
          let all : p.len ≡ length rs = m.1 h.0 in
          let gave = h.1 (λ a r q k. (is a.0 r q k).0) in
          sym (kept (length rs) (omega arith) (λ k l. answered (λ x o. Called g f (x, tt) o f) (λ x o u. (is x o f u).1) (p.at k) (get_or rs k d) None (m.2 k d (omega arith)) (gave k)) ∙ at_drop_all (first_of highest c) rs (length rs) (omega arith))
      by_places p m (Some b) h =
          let i = h.0 in
          let gave = h.3 (λ a r q k. (is a.0 r q k).0) in
          let stop : Some b ≡ told (get_or rs i d) = answered (λ x o. Called g f (x, tt) o f) (λ x o u. (is x o f u).1) (p.at i) (get_or rs i d) (Some b) (m.2 i d h.1) (there (p.at i) (λ x. Called g f (x, tt) (Some b) f) gave.0) in
          let before = λ (k : ℕ) (l : k < i). answered (λ x o. Called g f (x, tt) o f) (λ x o u. (is x o f u).1) (p.at k) (get_or rs k d) None (m.2 k d (omega (arith, h.1))) (there (p.at k) (λ x. Called g f (x, tt) None f) (gave.1 k l)) in
          sym (kept i (omega (arith, h.1, m.0)) before ∙ at_drop_more (first_of highest c) rs i d (omega (arith, h.1, m.0)) ∙ rw (← stop) refl)

  pub first_from_run : {S F : Type 0} {steps : S → Option (Bor Rule) → S → Type 0} {g : Mut F (Bor Rule × Unit {0}) (Option Breach)} {f : F} {s : S} (rs : List Rule) (d : Rule) (r : Option Breach) → SomeRun steps s (λ p. MatchOption r ((p.whole ≡ true) × AllItemsGive p g f None) (λ b. (i : ℕ) × (i < p.len) × (p.len ≡ i + 1) × IsFirstToGive p g f (Some b) None i)) → ((p : Run steps) → p.from ≡ s → ItemsMapTo p (λ y. y.now) rs) → ((x : Bor Rule) (o : Option Breach) (q : F) → Called g f (x, tt) o q → (q ≡ f) × (o ≡ told x.now)) → r ≡ first_of highest c rs
  first_from_run {g = g} {f = f} rs d r run items is = by_places rs d g f is run.0 (items run.0 run.1) r run.2
