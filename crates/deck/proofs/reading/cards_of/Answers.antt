use Rattle.std.proofs.Common.{◌≡◌, ℕ, zero, suc, ◌+◌, ◌*◌, List, ◌∷◌, drop, map, refl, ap, ◌∙◌, arith}
use Rattle.std.specs.List.{range_with_len}
use Rattle.std.specs.Simd.{first_chunks}
use Rattle.std.proofs.lemmas.List.{drop-drop}
use Rattle.deck.specs.Decks.{card_at, count}
use Rattle.deck.proofs.reading.cards_of.Goals as goal

-- n cards from place k on
cut_from : (text : List ℕ) (n k : ℕ) → first_chunks 80 n (drop (80 * k) text) ≡ map (card_at text) (range_with_len k n)
cut_from text zero k = refl
cut_from text (suc n) k =
    let e : 80 * k + 80 ≡ 80 * (k + 1) = omega arith in
    ap (λ xs. card_at text k ∷ first_chunks 80 n xs) (drop-drop 80 (80 * k) text ∙ ap (λ i. drop i text) e)
    ∙ ap (λ cs. card_at text k ∷ cs) (cut_from text n (k + 1))

pub returns : goal.returns
returns c = c.as_chunks.ensures.front ∙ cut_from c.args.text.now (count c.args.text.now) 0
