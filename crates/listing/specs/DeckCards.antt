-- The cards of a deck in front of the data: all up to a card with `/*` in its first two columns and blanks behind them.
use Rattle.std.specs.Prelude.{◌≡◌, ℕ, Bool, cond, ◌&&◌, List, [], ◌∷◌, ◌++◌, Some, None, Ok, Err, Option, Result, ◌==◌, slice_index}
use Rattle.columns.specs.Classes.{columns, is_blank}
use Rattle.devices.specs.declared.card.Card.{Card}
use Rattle.listing.specs.declared.deck_cards.DeckEnd.{DeckEnd}
use Rattle.listing.specs.declared.deck_cards.DeckEnd.TheVariants.{Mark, End}
use Rattle.listing.specs.declared.deck_cards.TakeError.{TakeError}
use Rattle.listing.specs.declared.deck_cards.TakeError.TheVariants.{Fault, NoMemory}

-- the card that ends a deck
abbrev pub is_mark : Card → Bool
is_mark c = slice_index c.columns 0 == 47 && slice_index c.columns 1 == 42 && is_blank (columns c.columns 3 80)

-- the bytes of the cards before the mark, end to end
abbrev pub deck_bytes : List Card → List ℕ
deck_bytes [] = []
deck_bytes (c ∷ cs) = cond (is_mark c) [] (c.columns ++ deck_bytes cs)

-- the cards behind the mark
abbrev pub data_cards : List Card → List Card
data_cards [] = []
data_cards (c ∷ cs) = cond (is_mark c) cs (data_cards cs)

-- what ends the deck: the mark or, without one, the hopper's ending
abbrev pub end_of : {F : Type 0} → Option F → Result DeckEnd (TakeError F)
end_of None = Ok End
end_of (Some f) = Err (Fault f)

abbrev pub deck_end : {F : Type 0} → List Card → Option F → Result DeckEnd (TakeError F)
deck_end [] e = end_of e
deck_end (c ∷ cs) e = cond (is_mark c) (Ok Mark) (deck_end cs e)

-- the deck was taken from the cards: it stands behind the bytes before, and the data are to come
pub record Taken {F : Type 0} (r : Result DeckEnd (TakeError F)) (cards : List Card) (ending : Option F) (old : List ℕ) (cards' : List Card) (new : List ℕ) : Type 0 where
  pub answer : r ≡ deck_end cards ending
  pub bytes : new ≡ old ++ deck_bytes cards
  pub rest : cards' ≡ data_cards cards

-- want of memory is an answer of its own
abbrev pub TakesDeck : {F : Type 0} → Result DeckEnd (TakeError F) → List Card → Option F → List ℕ → List Card → List ℕ → Type 0
TakesDeck (Ok Mark) cards ending old cards' new = Taken (Ok Mark) cards ending old cards' new
TakesDeck (Ok End) cards ending old cards' new = Taken (Ok End) cards ending old cards' new
TakesDeck (Err (Fault f)) cards ending old cards' new = Taken (Err (Fault f)) cards ending old cards' new
TakesDeck (Err NoMemory) cards ending old cards' new = Unit {0}
