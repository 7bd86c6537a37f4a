-- What a card tells in the light of the cards before it: a full table, and doubles.
use Rattle.std.specs.Prelude.{ℕ, Bool, true, false, not, ◌&&◌, ◌||◌, List, [], ◌∷◌, length, is_some, Some, None, Option, ◌==◌, nat_lt}
use Rattle.rules.specs.Rules.{Breach, rule, first}
use Rattle.rules.specs.Finding.{place_of_name, place_of_indicator}
use Rattle.rules.specs.declared.refusal.Refusal.TheVariants.{Double, TableFull}
use Rattle.cards.specs.declared.kinds.Shape.{Shape}
use Rattle.cards.specs.declared.kinds.Shape.TheVariants.{Number, Text}
use Rattle.cards.specs.declared.kinds.DeckCard.{DeckCard}
use Rattle.cards.specs.declared.kinds.DeckCard.TheVariants.{Comment, Record, Field, Calculation, OutputRecord, OutputField}
use Rattle.fields.specs.Fields.{Fields, is_known, shape_of}
use Rattle.fields.specs.declared.Definition.{Definition}
use Rattle.deck.specs.Defined.{Defined, Before, definition_of, level_shape}

-- two shapes are alike: of one kind, one length and the same decimals
abbrev pub are_alike : Shape → Shape → Bool
are_alike (Number m d) (Number n e) = m == n && d == e
are_alike (Number m d) (Text n) = false
are_alike (Text m) (Number n e) = false
are_alike (Text m) (Text n) = m == n

-- two control fields go together: of one kind and one length
abbrev pub go_together : Shape → Shape → Bool
go_together (Number m d) (Number n e) = m == n
go_together (Number m d) (Text n) = false
go_together (Text m) (Number n e) = false
go_together (Text m) (Text n) = m == n

-- a field that is not known yet finds a place among 64
abbrev pub has_place : Fields → Option Definition → Bool
has_place f None = true
has_place f (Some d) = is_known f d.name || nat_lt (length f.names) 64

-- a record type finds a place among 16
abbrev pub full : Defined → Before → DeckCard → Option Breach
full d b Comment = None
full d b (Record r) = rule TableFull 0 (nat_lt (length b.indicators) 16)
full d b (Field f) = rule TableFull 0 (has_place d.fields (definition_of (Field f)))
full d b (Calculation c) = rule TableFull 0 (has_place d.fields (definition_of (Calculation c)))
full d b (OutputRecord o) = None
full d b (OutputField o) = None

-- a field is defined as it was before
abbrev pub is_like : Fields → Option Definition → Bool
is_like f None = true
is_like f (Some d) = not (is_known f d.name) || are_alike (shape_of f d.name) d.shape

-- no other input of the record type has the level
abbrev pub is_new_level : List ℕ → Option ℕ → Bool
is_new_level levels None = true
is_new_level levels (Some l) = not (is_some (place_of_indicator levels l))

-- a control field goes together with the first one of its level
abbrev pub fits_shape : Option Shape → Shape → Bool
fits_shape None s = true
fits_shape (Some t) s = go_together t s

abbrev pub fits_level : List (Option Shape) → Option ℕ → Shape → Bool
fits_level levels None s = true
fits_level levels (Some l) s = fits_shape (level_shape levels l) s

-- a record indicator, a name or a level that is repeated; a field or a level that is defined unlike
abbrev pub doubles : Defined → Before → DeckCard → Option Breach
doubles d b Comment = None
doubles d b (Record r) = rule Double 19 (not (is_some (place_of_indicator b.indicators r.indicator)))
doubles d b (Field f) = first (
    rule Double 53 (is_like d.fields (definition_of (Field f)) && not (is_some (place_of_name b.names f.name)))
    ∷ rule Double 59 (is_new_level b.levels f.level && fits_level d.levels f.level f.shape)
    ∷ [])
doubles d b (Calculation c) = rule Double 43 (is_like d.fields (definition_of (Calculation c)))
doubles d b (OutputRecord o) = None
doubles d b (OutputField o) = None
