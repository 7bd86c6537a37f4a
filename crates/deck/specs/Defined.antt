-- What the cards of a deck define: fields, control levels, record types and their inputs.
use Rattle.std.specs.Prelude.{ℕ, ◌-◌, max, cond, not, ◌&&◌, List, [], ◌∷◌, ◌++◌, length, replicate, is_some, Some, None, vec_items, Option, nat_lt, slice_index_or, slice_set}
use Rattle.std.specs.Option.{option_to_list}
use Rattle.cards.specs.declared.kinds.Shape.{Shape}
use Rattle.cards.specs.declared.kinds.RecordCard.{RecordCard}
use Rattle.cards.specs.declared.kinds.FieldCard.{FieldCard}
use Rattle.cards.specs.declared.kinds.DeckCard.{DeckCard}
use Rattle.cards.specs.declared.kinds.DeckCard.TheVariants.{Comment, Record, Field, Calculation, OutputRecord, OutputField}
use Rattle.deck.specs.declared.kinds.RecordType.{RecordType}
use Rattle.deck.specs.declared.kinds.Input.{Input}
use Rattle.fields.specs.declared.Definition.{Definition}
use Rattle.deck.specs.declared.definitions.Definitions.{Definitions}
use Rattle.deck.specs.declared.seen.Seen.{Seen}
use Rattle.fields.specs.Fields.{Fields, no_fields, fields_of, entered, place_of}

pub record Defined : Type 0 where
  pub fields : Fields
  pub levels : List (Option Shape)
  pub types : List RecordType
  pub inputs : List Input

abbrev pub nothing : Defined
nothing = record { fields = no_fields; levels = replicate 10 None; types = []; inputs = [] }

-- what the definitions of a deck's table hold
abbrev pub defined_of : Definitions → Defined
defined_of d = record { fields = fields_of d.fields; levels = d.levels; types = vec_items d.types; inputs = vec_items d.inputs }

-- the field that a card defines: an input field, or a result with a length
abbrev pub result_definition : Option (List ℕ) → Option Shape → Option Definition
result_definition None s = None
result_definition (Some n) None = None
result_definition (Some n) (Some s) = Some (record { name = n; shape = s })

abbrev pub definition_of : DeckCard → Option Definition
definition_of Comment = None
definition_of (Record r) = None
definition_of (Field f) = Some (record { name = f.name; shape = f.shape })
definition_of (Calculation c) = result_definition c.result c.shape
definition_of (OutputRecord o) = None
definition_of (OutputField o) = None

abbrev pub with_definition : Fields → Option Definition → Fields
with_definition f None = f
with_definition f (Some d) = entered f d.name d.shape

-- L1 to L9 have the places 1 to 9; the first control field of a level gives the level its shape
abbrev pub level_shape : List (Option Shape) → ℕ → Option Shape
level_shape levels l = cond (nat_lt (l - 100) 10) (slice_index_or levels (l - 100) None) None

abbrev pub with_level : List (Option Shape) → Option ℕ → Shape → List (Option Shape)
with_level levels None s = levels
with_level levels (Some l) s = cond (nat_lt (l - 100) 10 && not (is_some (slice_index_or levels (l - 100) None))) (slice_set levels (l - 100) (Some s)) levels

-- a record type begins where the inputs before it end
abbrev pub type_of : ℕ → RecordCard → RecordType
type_of first r = record { indicator = r.indicator; codes = r.codes; first = first }

abbrev pub input_of : Fields → FieldCard → Input
input_of fields f = record { field = place_of fields f.name; from = f.from; level = f.level; told = f.told }

-- what a card adds to the definitions before it
abbrev pub define : Defined → DeckCard → Defined
define d Comment = d
define d (Record r) = record { fields = d.fields; levels = d.levels; types = d.types ++ type_of (length d.inputs) r ∷ []; inputs = d.inputs }
define d (Field f) = record {
  fields = with_definition d.fields (definition_of (Field f));
  levels = with_level d.levels f.level f.shape;
  types = d.types;
  inputs = d.inputs ++ input_of (with_definition d.fields (definition_of (Field f))) f ∷ [];
}
define d (Calculation c) = record { fields = with_definition d.fields (definition_of (Calculation c)); levels = d.levels; types = d.types; inputs = d.inputs }
define d (OutputRecord o) = d
define d (OutputField o) = d

-- what the rules ask of the cards before a card: the highest rank, the record indicators, and the names and levels
-- of the record type that is open
pub record Before : Type 0 where
  pub highest : ℕ
  pub indicators : List ℕ
  pub names : List (List ℕ)
  pub levels : List ℕ

abbrev pub none_before : Before
none_before = record { highest = 0; indicators = []; names = []; levels = [] }

abbrev pub before_of : Seen → Before
before_of s = record { highest = s.highest; indicators = vec_items s.indicators; names = vec_items s.names; levels = vec_items s.levels }

abbrev pub see : Before → ℕ → DeckCard → Before
see b rank Comment = record { highest = max b.highest rank; indicators = b.indicators; names = b.names; levels = b.levels }
see b rank (Record r) = record { highest = max b.highest rank; indicators = b.indicators ++ r.indicator ∷ []; names = []; levels = [] }
see b rank (Field f) = record { highest = max b.highest rank; indicators = b.indicators; names = b.names ++ f.name ∷ []; levels = b.levels ++ option_to_list f.level }
see b rank (Calculation c) = record { highest = max b.highest rank; indicators = b.indicators; names = b.names; levels = b.levels }
see b rank (OutputRecord o) = record { highest = max b.highest rank; indicators = b.indicators; names = b.names; levels = b.levels }
see b rank (OutputField o) = record { highest = max b.highest rank; indicators = b.indicators; names = b.names; levels = b.levels }
