-- The cards of an accepted deck stand in order.
use Rattle.std.proofs.Common.{◌≡◌, ℕ, zero, suc, ◌<◌, ◌≤◌, max, true, ◌⊎◌, List, [], ◌∷◌, drop, None, refl, subst, inl, inr, le_trans, le_of_suc-le-suc, not-suc-le-zero, eq-or-lt_of_le, arith}
use Rattle.std.proofs.lemmas.Bool.Decides.{nat_tests}
use Rattle.rules.specs.declared.refusal.Refusal.TheVariants.{Order}
use Rattle.cards.specs.declared.kinds.DeckCard.{DeckCard}
use Rattle.cards.specs.declared.kinds.DeckCard.TheVariants as card
use Rattle.cards.specs.declared.kinds.Kind.{Kind}
use Rattle.cards.specs.declared.kinds.Kind.TheVariants.{Comment, Record, Field, Calculation, OutputRecord, OutputField, Unknown}
use Rattle.cards.specs.declared.kinds.Rule.{Rule}
use Rattle.cards.specs.declared.kinds.What.TheVariants.{Free, Form}
use Rattle.cards.specs.Layouts.{entry, layout_of}
use Rattle.cards.specs.Punches as punches
use Rattle.cards.specs.Punches.{kind_of, rank_of, follows}
use Rattle.deck.specs.Decks.{card_at, count, first_telling, defined_by, seen_by}
use Rattle.deck.specs.Defined.{Before, see}
use Rattle.deck.specs.Laws.{card_in, rank_at, Accepted}
use Rattle.deck.specs.Rules.{full, doubles}
use Rattle.deck.proofs.Apart.{first_kept}
use Rattle.deck.proofs.Resolved.{not_false, kept_head, kept_rest, kept, unnumbered}

-- the highest rank grows by each card's
highest_by : (b : Before) (rank : ℕ) (c : DeckCard) → (see b rank c).highest ≡ max b.highest rank
highest_by b rank card.Comment = refl
highest_by b rank _ = refl

below : (text : List ℕ) (i j : ℕ) → i < j → rank_at text i ≤ (seen_by text j).highest
below text i zero h = absurd (not-suc-le-zero h)
below text i (suc j) h = at (eq-or-lt_of_le (le_of_suc-le-suc h)) (below text i j)
  where
    grown : (see (seen_by text j) (rank_at text j) (card_in text j)).highest ≡ max (seen_by text j).highest (rank_at text j)
    grown = highest_by (seen_by text j) (rank_at text j) (card_in text j)

    at : (i ≡ j) ⊎ (i < j) → (i < j → rank_at text i ≤ (seen_by text j).highest) → rank_at text i ≤ (see (seen_by text j) (rank_at text j) (card_in text j)).highest
    at (inl e) f = let r : rank_at text i ≡ rank_at text j = subst (λ (k : ℕ). rank_at text i ≡ rank_at text k) e refl in omega (arith, grown, r)
    at (inr l) f = omega (arith, grown, f l)

-- a card that breaks no rule of its layout follows the cards before it
module _ (h : ℕ) (c : List ℕ) where
  behind : (rs : List Rule) → punches.first_of h c (entry 1 5 Free ∷ entry 6 6 Form ∷ rs) ≡ None → follows (kind_of c) h c ≡ true
  behind rs e =
      let form = entry 6 6 Form ∷ rs in
      let kept-form = kept_head (punches.first_of h c form) [] (kept_rest (punches.tells h c Free 1 5) (punches.first_of h c form ∷ []) e) in
      kept Order 6 (follows (kind_of c) h c) (kept_head (punches.tells h c Form 6 6) (punches.first_of h c rs ∷ []) kept-form)

  told_form : (k : Kind) → (k ≡ Comment → ⊥) → punches.first_of h c (layout_of k) ≡ None → follows (kind_of c) h c ≡ true
  told_form Comment n e = absurd (n refl)
  told_form Record n e = behind (drop 2 (layout_of Record)) e
  told_form Field n e = behind (drop 2 (layout_of Field)) e
  told_form Calculation n e = behind (drop 2 (layout_of Calculation)) e
  told_form OutputRecord n e = behind (drop 2 (layout_of OutputRecord)) e
  told_form OutputField n e = behind (drop 2 (layout_of OutputField)) e
  told_form Unknown n e = behind (drop 2 (layout_of Unknown)) e

-- and so ranks no lower than they
in_rank : (k : Kind) (h : ℕ) (c : List ℕ) → (k ≡ Comment → ⊥) → follows k h c ≡ true → h ≤ rank_of k c
in_rank Comment h c n e = absurd (n refl)
in_rank Record h c n e = grind (arith, nat_tests)
in_rank Field h c n e = grind (arith, nat_tests)
in_rank Calculation h c n e = grind (arith, nat_tests)
in_rank OutputRecord h c n e = grind (arith, nat_tests)
in_rank OutputField h c n e = grind (arith, nat_tests)
in_rank Unknown h c n e = not_false e

pub in_order : (text : List ℕ) → Accepted text → (i j : ℕ) → i < j → j < count text → (kind_of (card_at text j) ≡ Comment → ⊥) → rank_at text i ≤ rank_at text j
in_order text a i j h l n =
    let c = card_at text j in
    let d = defined_by text j in
    let b = seen_by text j in
    let told = unnumbered j (first_telling d b c) (first_kept text a j l) in
    let kept-layout = kept_head (punches.first_of b.highest c (layout_of (kind_of c))) (full d b (card_in text j) ∷ doubles d b (card_in text j) ∷ []) told in
    let rank = in_rank (kind_of c) b.highest c n (told_form b.highest c (kind_of c) n kept-layout) in
    le_trans (below text i j h) rank
