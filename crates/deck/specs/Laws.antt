-- What the rules of a deck give together, in words of its cards: what holds of any two cards of an accepted deck, and of
-- each name that a card uses.
use Rattle.std.specs.Prelude.{◌≡◌, ℕ, ◌<◌, ◌≤◌, true, ◌⊎◌, List, [], length, Some, None, Ok, Err, Result, ◌≢◌, slice_index_or}
use Rattle.rules.specs.Rules.{IsFirst}
use Rattle.cards.specs.Punches.{kind_of, rank_of}
use Rattle.cards.specs.declared.kinds.Kind.TheVariants as kind
use Rattle.cards.specs.declared.kinds.RecordCard.{RecordCard}
use Rattle.cards.specs.declared.kinds.FieldCard.{FieldCard}
use Rattle.cards.specs.declared.kinds.DeckCard.{DeckCard}
use Rattle.cards.specs.declared.kinds.DeckCard.TheVariants.{Comment, Record, Field, Calculation, OutputRecord, OutputField}
use Rattle.meanings.specs.Meanings.{card_of}
use Rattle.fields.specs.Fields.{Fields, place_of}
use Rattle.uses.specs.Uses.{factor_name, printed_name}
use Rattle.fields.specs.declared.Definition.{Definition}
use Rattle.deck.specs.declared.kinds.ReadError.{ReadError}
use Rattle.deck.specs.Decks.{card_at, count, defined_by, fields_in, rules}
use Rattle.deck.specs.Defined.{definition_of}
use Rattle.deck.specs.Rules.{are_alike, go_together}

-- what the card at place k means
abbrev pub card_in : List ℕ → ℕ → DeckCard
card_in text k = card_of (card_at text k)

-- a card uses a name as a factor, as a result, or to print it
abbrev pub UsesName : DeckCard → List ℕ → Type 0
UsesName Comment n = ⊥
UsesName (Record r) n = ⊥
UsesName (Field f) n = ⊥
UsesName (Calculation c) n = (c.factor1 ≡ Some n) ⊎ (factor_name c.factor2 ≡ Some n) ⊎ (c.result ≡ Some n)
UsesName (OutputRecord o) n = ⊥
UsesName (OutputField o) n = printed_name o.printed ≡ Some n

-- the place that is looked up for a name is one of the table, and bears that name
pub record Finds (f : Fields) (n : List ℕ) : Type 0 where
  pub within : place_of f n < length f.names
  pub named : slice_index_or f.names (place_of f n) [] ≡ n

-- the card at place j belongs to the same record type as one at place i before it: no record card stands between them
abbrev pub SameType : List ℕ → ℕ → ℕ → Type 0
SameType text i j = (k : ℕ) → i < k → k < j → (r : RecordCard) → card_in text k ≢ Record r

-- where the card at place k stands in the order: 1 input, 2 detail and 3 total calculations, 4 output; 0 a comment
abbrev pub rank_at : List ℕ → ℕ → ℕ
rank_at text k = rank_of (kind_of (card_at text k)) (card_at text k)

-- what an accepted deck keeps
pub record Keeps (text : List ℕ) : Type 0 where
  -- no more than 64 fields and 16 record types
  pub few_fields : length (fields_in text).names ≤ 64
  pub few_types : length (defined_by text (count text)).types ≤ 16
  -- comments aside, the cards stand in order
  pub in_order : (i j : ℕ) → i < j → j < count text → (kind_of (card_at text j) ≢ kind.Comment) → rank_at text i ≤ rank_at text j
  -- no two record types have one record indicator
  pub types_apart : (i j : ℕ) → i < j → j < count text → (r s : RecordCard) → card_in text i ≡ Record r → card_in text j ≡ Record s → r.indicator ≢ s.indicator
  -- within a record type no two fields have one name, and no two one level
  pub names_once : (i j : ℕ) → i < j → j < count text → SameType text i j → (f g : FieldCard) → card_in text i ≡ Field f → card_in text j ≡ Field g → f.name ≢ g.name
  pub levels_once : (i j : ℕ) → i < j → j < count text → SameType text i j → (f g : FieldCard) → card_in text i ≡ Field f → card_in text j ≡ Field g → (l : ℕ) → f.level ≡ Some l → g.level ≢ Some l
  -- all control fields of one level, L1 to L9 being 101 to 109, are of one length and one kind
  pub levels_alike : (i j : ℕ) → i < j → j < count text → (f g : FieldCard) → card_in text i ≡ Field f → card_in text j ≡ Field g → (l : ℕ) → 101 ≤ l → l ≤ 109 → f.level ≡ Some l → g.level ≡ Some l → go_together f.shape g.shape ≡ true
  -- all cards that define one name define it alike
  pub defined_alike : (i j : ℕ) → i < j → j < count text → (c d : Definition) → definition_of (card_in text i) ≡ Some c → definition_of (card_in text j) ≡ Some d → c.name ≡ d.name → are_alike c.shape d.shape ≡ true
  -- the field table finds every name that a card uses
  pub names_found : (k : ℕ) → k < count text → (n : List ℕ) → UsesName (card_in text k) n → Finds (fields_in text) n

-- a deck is accepted: every rule is kept
abbrev pub Accepted : List ℕ → Type 0
Accepted text = IsFirst (rules text) None

-- what is promised of a deck that was read
abbrev pub ReadKeeps : List ℕ → Result (Unit {0}) ReadError → Type 0
ReadKeeps text (Ok x) = Keeps text
ReadKeeps text (Err e) = Unit {0}
