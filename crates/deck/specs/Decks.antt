-- A deck: all its rules in the order in which they are told, and the table that an accepted deck fills.
use Rattle.std.specs.Prelude.{◌≡◌, ℕ, zero, suc, ◌+◌, ◌*◌, ◌/◌, ◌%◌, Bool, cond, not, ◌||◌, List, [], ◌∷◌, ◌++◌, map, length, take, drop, Some, None, Ok, Err, vec_items, Option, Result, ◌==◌, nat_lt}
use Rattle.std.specs.List.{range_with_len}
use Rattle.std.specs.Option.{option_map}
use Rattle.rules.specs.Rules as column
use Rattle.rules.specs.Rules.{first, IsFirst}
use Rattle.rules.specs.Refusals.{number_of}
use Rattle.rules.specs.declared.refusal.Refusal.TheVariants.{CutDeck}
use Rattle.cards.specs.Layouts.{layout_of}
use Rattle.meanings.specs.Meanings.{card_of}
use Rattle.cards.specs.Punches.{kind_of, rank_of, first_of}
use Rattle.deck.specs.declared.kinds.Breach.{Breach}
use Rattle.deck.specs.declared.kinds.Numbers.{Numbers}
use Rattle.deck.specs.declared.kinds.ReadError.{ReadError}
use Rattle.deck.specs.declared.kinds.ReadError.TheVariants.{Refused, NoMemory}
use Rattle.deck.specs.declared.deck.Deck.{Deck}
use Rattle.deck.specs.Acted.{Acted, acted_of, no_actions, act}
use Rattle.deck.specs.Defined.{Defined, Before, defined_of, nothing, none_before, define, see}
use Rattle.fields.specs.Fields.{Fields}
use Rattle.deck.specs.Rules.{full, doubles}
use Rattle.uses.specs.Uses.{unknowns, kinds}

-- the columns of the card at place k, counted from 0, how many cards there are, and all of them
abbrev pub card_at : List ℕ → ℕ → List ℕ
card_at text k = take 80 (drop (80 * k) text)

abbrev pub count : List ℕ → ℕ
count text = length text / 80

abbrev pub cards : List ℕ → List (List ℕ)
cards text = map (card_at text) (range_with_len 0 (count text))

-- what the first k cards define, and what the rules ask of them
abbrev pub defined_by : List ℕ → ℕ → Defined
defined_by text zero = nothing
defined_by text (suc k) = define (defined_by text k) (card_of (card_at text k))

abbrev pub seen_by : List ℕ → ℕ → Before
seen_by text zero = none_before
seen_by text (suc k) = see (seen_by text k) (rank_of (kind_of (card_at text k)) (card_at text k)) (card_of (card_at text k))

-- the field table of the whole deck
abbrev pub fields_in : List ℕ → Fields
fields_in text = (defined_by text (count text)).fields

-- what the first k cards ask for
abbrev pub acted_by : List ℕ → ℕ → Acted
acted_by text zero = no_actions
acted_by text (suc k) = act (fields_in text) k (acted_by text k) (card_of (card_at text k))

-- a card's breach, with the card's number
abbrev pub numbered : ℕ → Option column.Breach → Option Breach
numbered k b = option_map (λ x. record { refusal = x.0; card = k + 1; column = x.1 }) b

-- no card, a rest that is no card, or over 256 cards
abbrev pub is_cut : List ℕ → Bool
is_cut text = length text == 0 || not (length text % 80 == 0) || nat_lt 20480 (length text)

abbrev pub cut : List ℕ → Option Breach
cut text = cond (is_cut text) (Some (record { refusal = CutDeck; card = 0; column = 0 })) None

-- the first telling of a card, by the cards before it: order and punches by column, a full table, doubles
abbrev pub first_telling : Defined → Before → List ℕ → Option column.Breach
first_telling d b c = first (first_of b.highest c (layout_of (kind_of c)) ∷ full d b (card_of c) ∷ doubles d b (card_of c) ∷ [])

-- the second telling of a card, by the whole field table: unknown names, kinds
abbrev pub second_telling : Fields → List ℕ → Option column.Breach
second_telling f c = first (unknowns f (card_of c) ∷ kinds f (card_of c) ∷ [])

abbrev pub first_at : List ℕ → ℕ → Option Breach
first_at text k = numbered k (first_telling (defined_by text k) (seen_by text k) (card_at text k))

abbrev pub second_at : List ℕ → ℕ → Option Breach
second_at text k = numbered k (second_telling (fields_in text) (card_at text k))

abbrev pub first_sweep : List ℕ → List (Option Breach)
first_sweep text = map (first_at text) (range_with_len 0 (count text))

abbrev pub second_sweep : List ℕ → List (Option Breach)
second_sweep text = map (second_at text) (range_with_len 0 (count text))

-- every rule of a deck in telling order: its size, then each card, then each card again
abbrev pub rules : List ℕ → List (Option Breach)
rules text = cut text ∷ (first_sweep text ++ second_sweep text)

-- what a deck's table holds
pub record Table : Type 0 where
  pub text : List ℕ
  pub defined : Defined
  pub acted : Acted

abbrev pub empty_table : Table
empty_table = record { text = []; defined = nothing; acted = no_actions }

abbrev pub table_of : Deck → Table
table_of d = record { text = vec_items d.text; defined = defined_of d.definitions; acted = acted_of d.actions }

-- the table of an accepted deck
abbrev pub deck_of : List ℕ → Table
deck_of text = record { text = text; defined = defined_by text (count text); acted = acted_by text (count text) }

-- what reading a deck answers and leaves in the table: every rule is kept and the table is the deck's, or the first
-- breach is told and the table is empty; for want of memory it is empty too
abbrev pub ReadAs : List ℕ → Result (Unit {0}) ReadError → Table → Type 0
ReadAs text (Ok x) t = IsFirst (rules text) None × (t ≡ deck_of text)
ReadAs text (Err (Refused b)) t = IsFirst (rules text) (Some b) × (t ≡ empty_table)
ReadAs text (Err NoMemory) t = t ≡ empty_table

-- the numbers of an answer: the refusal's, the card and the column; want of memory has none
abbrev pub numbers_of : ReadError → Option Numbers
numbers_of (Refused b) = Some (record { number = number_of b.refusal; card = b.card; column = b.column })
numbers_of NoMemory = None
