-- What the calculation and output cards of a deck ask for, with every name looked up in the field table.
use Rattle.std.specs.Prelude.{ℕ, ◌+◌, ◌*◌, Bool, true, false, List, [], ◌∷◌, ◌++◌, length, is_some, vec_items}
use Rattle.std.specs.Option.{option_map}
use Rattle.cards.specs.declared.kinds.Factor.{Factor}
use Rattle.cards.specs.declared.kinds.Factor.TheVariants as factor
use Rattle.cards.specs.declared.kinds.LineKind.{LineKind}
use Rattle.cards.specs.declared.kinds.LineKind.TheVariants.{Heading, Detail, Total}
use Rattle.cards.specs.declared.kinds.Printed.{Printed}
use Rattle.cards.specs.declared.kinds.Printed.TheVariants as printed
use Rattle.cards.specs.declared.kinds.CalculationCard.{CalculationCard}
use Rattle.cards.specs.declared.kinds.OutputRecordCard.{OutputRecordCard}
use Rattle.cards.specs.declared.kinds.OutputFieldCard.{OutputFieldCard}
use Rattle.cards.specs.declared.kinds.DeckCard.{DeckCard}
use Rattle.cards.specs.declared.kinds.DeckCard.TheVariants as card
use Rattle.deck.specs.declared.kinds.Part.{Part}
use Rattle.deck.specs.declared.kinds.Operand.{Operand}
use Rattle.deck.specs.declared.kinds.Operand.TheVariants as operand
use Rattle.deck.specs.declared.kinds.Calculation.{Calculation}
use Rattle.deck.specs.declared.kinds.OutputRecord.{OutputRecord}
use Rattle.deck.specs.declared.kinds.Source.{Source}
use Rattle.deck.specs.declared.kinds.Source.TheVariants as source
use Rattle.deck.specs.declared.kinds.Output.{Output}
use Rattle.deck.specs.declared.actions.Actions.{Actions}
use Rattle.fields.specs.Fields.{Fields, place_of}

-- calculations at detail and at total time, lines in deck order, the places of the lines of each time, and the parts
-- of all lines
pub record Acted : Type 0 where
  pub detail : List Calculation
  pub total : List Calculation
  pub records : List OutputRecord
  pub detail_lines : List ℕ
  pub total_lines : List ℕ
  pub outputs : List Output

abbrev pub no_actions : Acted
no_actions = record { detail = []; total = []; records = []; detail_lines = []; total_lines = []; outputs = [] }

abbrev pub acted_of : Actions → Acted
acted_of a = record {
  detail = vec_items a.calculations.detail;
  total = vec_items a.calculations.total;
  records = vec_items a.records;
  detail_lines = vec_items a.lines.detail;
  total_lines = vec_items a.lines.total;
  outputs = vec_items a.outputs;
}

-- the part of the text that begins behind a column of the card at place k
abbrev pub part_behind : ℕ → ℕ → ℕ → Part
part_behind k column n = record { at = 80 * k + column; length = n }

-- a text literal begins behind the apostrophe in column 33 of the card at place k, a constant behind that in column 45
abbrev pub operand_of : Fields → ℕ → Factor → Operand
operand_of f k (factor.Field n) = operand.Field (place_of f n)
operand_of f k (factor.Number l) = operand.Number l
operand_of f k (factor.Text n) = operand.Text (part_behind k 33 n)

abbrev pub source_of : Fields → ℕ → Printed → Source
source_of f k (printed.Field n e b) = source.Field (place_of f n) e b
source_of f k (printed.Constant e n) = source.Constant (part_behind k 45 n)

abbrev pub calculation_of : Fields → ℕ → CalculationCard → Calculation
calculation_of f k c = record {
  card = k + 1;
  level = c.level;
  conditions = c.conditions;
  operation = c.operation;
  factor1 = option_map (place_of f) c.factor1;
  factor2 = option_map (operand_of f k) c.factor2;
  result = option_map (place_of f) c.result;
  half_adjust = c.half_adjust;
  told = c.told;
}

-- a line begins where the parts of the lines before it end
abbrev pub record_of : ℕ → ℕ → OutputRecordCard → OutputRecord
record_of k first o = record { card = k + 1; kind = o.kind; spacing = o.spacing; conditions = o.conditions; first = first }

abbrev pub output_of : Fields → ℕ → OutputFieldCard → Output
output_of f k o = record { conditions = o.conditions; source = source_of f k o.printed; end = o.end }

-- heading and detail lines are printed at detail time
abbrev pub is_total : LineKind → Bool
is_total Heading = false
is_total Detail = false
is_total Total = true

-- what is done at one time, and an item that comes last if it is done then
abbrev pub with_item : {X : Type 0} → List X → Bool → X → List X
with_item xs true x = xs ++ x ∷ []
with_item xs false x = xs

abbrev pub add_line : Acted → Bool → OutputRecord → Acted
add_line a true r = record { detail = a.detail; total = a.total; records = a.records ++ r ∷ []; detail_lines = a.detail_lines; total_lines = a.total_lines ++ length a.records ∷ []; outputs = a.outputs }
add_line a false r = record { detail = a.detail; total = a.total; records = a.records ++ r ∷ []; detail_lines = a.detail_lines ++ length a.records ∷ []; total_lines = a.total_lines; outputs = a.outputs }

-- a calculation with a level is one of total time
abbrev pub add_calculation : Acted → Bool → Calculation → Acted
add_calculation a true c = record { detail = a.detail; total = a.total ++ c ∷ []; records = a.records; detail_lines = a.detail_lines; total_lines = a.total_lines; outputs = a.outputs }
add_calculation a false c = record { detail = a.detail ++ c ∷ []; total = a.total; records = a.records; detail_lines = a.detail_lines; total_lines = a.total_lines; outputs = a.outputs }

abbrev pub add_output : Acted → Output → Acted
add_output a o = record { detail = a.detail; total = a.total; records = a.records; detail_lines = a.detail_lines; total_lines = a.total_lines; outputs = a.outputs ++ o ∷ [] }

-- what the card at place k adds to the actions before it
abbrev pub act : Fields → ℕ → Acted → DeckCard → Acted
act f k a card.Comment = a
act f k a (card.Record r) = a
act f k a (card.Field i) = a
act f k a (card.Calculation c) = add_calculation a (is_some c.level) (calculation_of f k c)
act f k a (card.OutputRecord o) = add_line a (is_total o.kind) (record_of k (length a.outputs) o)
act f k a (card.OutputField o) = add_output a (output_of f k o)
