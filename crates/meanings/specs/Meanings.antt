-- What a card that keeps its rules means, read off its columns.
use Rattle.std.specs.Prelude.{ℕ, ◌+◌, cond, not, List, [], ◌∷◌, Some, None, Option, ◌==◌, slice_index}
use Rattle.std.specs.Option.{unwrap_or}
use Rattle.columns.specs.Classes.{columns, is_blank}
use Rattle.entries.specs.Entries.{is_name, value_of}
use Rattle.entries.specs.Indicators.{indicator_of, condition_of}
use Rattle.entries.specs.Literals.{text_of, text_length, numeric_of}
use Rattle.columns.specs.declared.kinds.Condition.{Condition}
use Rattle.columns.specs.declared.kinds.Literal.{Literal}
use Rattle.images.specs.Edits.{code_of}
use Rattle.cards.specs.declared.kinds.Kind.{Kind}
use Rattle.cards.specs.declared.kinds.Kind.TheVariants as kind
use Rattle.cards.specs.declared.kinds.Shape.{Shape}
use Rattle.cards.specs.declared.kinds.Shape.TheVariants as shape
use Rattle.cards.specs.declared.kinds.Code.{Code}
use Rattle.cards.specs.declared.kinds.Three.{Three}
use Rattle.cards.specs.declared.kinds.Told.{Told}
use Rattle.cards.specs.declared.kinds.RecordCard.{RecordCard}
use Rattle.cards.specs.declared.kinds.FieldCard.{FieldCard}
use Rattle.cards.specs.declared.kinds.Factor.{Factor}
use Rattle.cards.specs.declared.kinds.Factor.TheVariants as factor
use Rattle.cards.specs.declared.kinds.CalculationCard.{CalculationCard}
use Rattle.cards.specs.declared.kinds.LineKind.{LineKind}
use Rattle.cards.specs.declared.kinds.LineKind.TheVariants.{Heading, Detail, Total}
use Rattle.cards.specs.declared.kinds.OutputRecordCard.{OutputRecordCard}
use Rattle.cards.specs.declared.kinds.Printed.{Printed}
use Rattle.cards.specs.declared.kinds.Printed.TheVariants as printed
use Rattle.cards.specs.declared.kinds.OutputFieldCard.{OutputFieldCard}
use Rattle.cards.specs.declared.kinds.DeckCard.{DeckCard}
use Rattle.cards.specs.declared.kinds.DeckCard.TheVariants.{Comment, Record, Field, Calculation, OutputRecord, OutputField}
use Rattle.cards.specs.Punches.{kind_of, width_of, operation_in}

-- the six columns of a name
abbrev pub name_of : List ℕ → List ℕ
name_of s = slice_index s 0 ∷ slice_index s 1 ∷ slice_index s 2 ∷ slice_index s 3 ∷ slice_index s 4 ∷ slice_index s 5 ∷ []

-- a name, unless the entry is blank
abbrev pub name_in : List ℕ → Option (List ℕ)
name_in s = cond (is_blank s) None (Some (name_of s))

-- a number with decimals, or text where they are blank
abbrev pub shape_of : ℕ → List ℕ → Shape
shape_of width decimals = cond (is_blank decimals) (shape.Text width) (shape.Number width (value_of decimals))

abbrev pub code_in : List ℕ → Option Code
code_in s = cond (is_blank s) None (Some (record { position = value_of s; negated = (slice_index s 4 == 78); character = slice_index s 6 }))

-- three conditions in the nine columns from a on
abbrev pub conditions_in : List ℕ → ℕ → Three Condition
conditions_in c a = record {
  first = condition_of (columns c a (a + 2));
  second = condition_of (columns c (a + 3) (a + 5));
  third = condition_of (columns c (a + 6) (a + 8));
}

-- three indicators in the six columns from a on
abbrev pub told_in : List ℕ → ℕ → Told
told_in c a = record {
  plus = indicator_of (columns c a (a + 1));
  minus = indicator_of (columns c (a + 2) (a + 3));
  zero = indicator_of (columns c (a + 4) (a + 5));
}

abbrev pub codes_in : List ℕ → Three Code
codes_in c = record {
  first = code_in (columns c 21 27);
  second = code_in (columns c 28 34);
  third = code_in (columns c 35 41);
}

abbrev pub record_of : List ℕ → RecordCard
record_of c = record { indicator = unwrap_or (indicator_of (columns c 19 20)) 0; codes = codes_in c }

abbrev pub field_of : List ℕ → FieldCard
field_of c = record {
  name = name_of (columns c 53 58);
  from = value_of (columns c 44 47);
  shape = shape_of (width_of (columns c 44 47) (columns c 48 51)) (columns c 52 52);
  level = indicator_of (columns c 59 60);
  told = told_in c 65;
}

-- a literal is a number where it reads as one, and otherwise a text
abbrev pub number_or_text : Option Literal → ℕ → Factor
number_or_text None length = factor.Text length
number_or_text (Some l) length = factor.Number l

abbrev pub literal_factor : List ℕ → Factor
literal_factor s = number_or_text (numeric_of s) (text_length (text_of s))

abbrev pub factor_of : List ℕ → Option Factor
factor_of s = cond (is_blank s) None (Some (cond (is_name s) (factor.Field (name_of s)) (literal_factor s)))

-- the shape of a result, where the card defines it
abbrev pub result_shape : List ℕ → List ℕ → Option Shape
result_shape length decimals = cond (is_blank length) None (Some (shape_of (value_of length) decimals))

abbrev pub calculation_of : List ℕ → CalculationCard
calculation_of c = record {
  level = indicator_of (columns c 7 8);
  conditions = conditions_in c 9;
  factor1 = name_in (columns c 18 27);
  operation = operation_in c;
  factor2 = factor_of (columns c 33 42);
  result = name_in (columns c 43 48);
  shape = result_shape (columns c 49 51) (columns c 52 52);
  half_adjust = not (is_blank (columns c 53 53));
  told = told_in c 54;
}

-- the letters are H 72, D 68 and T 84
abbrev pub line_kind_of : List ℕ → LineKind
line_kind_of s = cond (slice_index s 0 == 84) Total (cond (slice_index s 0 == 68) Detail Heading)

-- a blank is single spacing
abbrev pub spacing_of : List ℕ → ℕ
spacing_of s = cond (is_blank s) 1 (value_of s)

abbrev pub output_record_of : List ℕ → OutputRecordCard
output_record_of c = record {
  kind = line_kind_of (columns c 15 15);
  spacing = spacing_of (columns c 18 18);
  conditions = conditions_in c 23;
}

-- a field by its name, or a constant
abbrev pub printed_of : List ℕ → Printed
printed_of c =
    cond (is_blank (columns c 32 37))
    (printed.Constant (code_of (slice_index c 37)) (text_length (text_of (columns c 45 70))))
    (printed.Field (name_of (columns c 32 37)) (code_of (slice_index c 37)) (not (is_blank (columns c 39 39))))

abbrev pub output_field_of : List ℕ → OutputFieldCard
output_field_of c = record {
  conditions = conditions_in c 23;
  printed = printed_of c;
  end = value_of (columns c 40 43);
}

abbrev pub meant_by : Kind → List ℕ → DeckCard
meant_by kind.Comment c = Comment
meant_by kind.Record c = Record (record_of c)
meant_by kind.Field c = Field (field_of c)
meant_by kind.Calculation c = Calculation (calculation_of c)
meant_by kind.OutputRecord c = OutputRecord (output_record_of c)
meant_by kind.OutputField c = OutputField (output_field_of c)
meant_by kind.Unknown c = Comment

-- what a card means
abbrev pub card_of : List ℕ → DeckCard
card_of c = meant_by (kind_of c) c
