-- The layout of each card kind: its entries in the order of their columns, and what may stand in each.
use Rattle.std.specs.Prelude.{ℕ, ◌≤◌, Bool, true, false, ◌||◌, T, List, [], ◌∷◌}
use Rattle.columns.specs.Classes.{within}
use Rattle.cards.specs.declared.kinds.Kind.{Kind}
use Rattle.cards.specs.declared.kinds.Kind.TheVariants as kind
use Rattle.cards.specs.declared.kinds.Rule.{Rule}
use Rattle.cards.specs.declared.kinds.What.{What}
use Rattle.cards.specs.declared.kinds.What.TheVariants.{Free, Blank, Form, RecordIndicator, Code, From, To, FieldDecimals, Name, ControlLevel, SignIndicator, Settable, TotalLevel, Condition, Factor1, Operation, Factor2, Result, Length, ResultDecimals, HalfAdjust, Told, Sets, LineKind, Spacing, OptionalName, Edit, BlankAfter, End, Constant}

abbrev pub entry : ℕ → ℕ → What → Rule
entry a b w = record { from = a; to = b; what = w }

-- an input record card
abbrev pub record_layout : List Rule
record_layout =
    entry 1 5 Free
    ∷ entry 6 6 Form
    ∷ entry 7 16 Free
    ∷ entry 17 18 Blank
    ∷ entry 19 20 RecordIndicator
    ∷ entry 21 27 Code
    ∷ entry 28 34 Code
    ∷ entry 35 41 Code
    ∷ entry 42 74 Blank
    ∷ entry 75 80 Free
    ∷ []

-- an input field card
abbrev pub field_layout : List Rule
field_layout =
    entry 1 5 Free
    ∷ entry 6 6 Form
    ∷ entry 7 43 Blank
    ∷ entry 44 47 From
    ∷ entry 48 51 To
    ∷ entry 52 52 FieldDecimals
    ∷ entry 53 58 Name
    ∷ entry 59 60 ControlLevel
    ∷ entry 61 64 Blank
    ∷ entry 65 66 SignIndicator
    ∷ entry 67 68 SignIndicator
    ∷ entry 69 70 Settable
    ∷ entry 71 74 Blank
    ∷ entry 75 80 Free
    ∷ []

-- a calculation card; the rule on columns 54 to 59 as a whole breaks only where all of them are blank
abbrev pub calculation_layout : List Rule
calculation_layout =
    entry 1 5 Free
    ∷ entry 6 6 Form
    ∷ entry 7 8 TotalLevel
    ∷ entry 9 11 Condition
    ∷ entry 12 14 Condition
    ∷ entry 15 17 Condition
    ∷ entry 18 27 Factor1
    ∷ entry 28 32 Operation
    ∷ entry 33 42 Factor2
    ∷ entry 43 48 Result
    ∷ entry 49 51 Length
    ∷ entry 52 52 ResultDecimals
    ∷ entry 53 53 HalfAdjust
    ∷ entry 54 55 Told
    ∷ entry 56 57 Told
    ∷ entry 58 59 Told
    ∷ entry 54 59 Sets
    ∷ entry 60 74 Blank
    ∷ entry 75 80 Free
    ∷ []

-- an output record card
abbrev pub output_record_layout : List Rule
output_record_layout =
    entry 1 5 Free
    ∷ entry 6 6 Form
    ∷ entry 7 14 Free
    ∷ entry 15 15 LineKind
    ∷ entry 16 17 Blank
    ∷ entry 18 18 Spacing
    ∷ entry 19 22 Blank
    ∷ entry 23 25 Condition
    ∷ entry 26 28 Condition
    ∷ entry 29 31 Condition
    ∷ entry 32 74 Blank
    ∷ entry 75 80 Free
    ∷ []

-- an output field card
abbrev pub output_field_layout : List Rule
output_field_layout =
    entry 1 5 Free
    ∷ entry 6 6 Form
    ∷ entry 7 22 Blank
    ∷ entry 23 25 Condition
    ∷ entry 26 28 Condition
    ∷ entry 29 31 Condition
    ∷ entry 32 37 OptionalName
    ∷ entry 38 38 Edit
    ∷ entry 39 39 BlankAfter
    ∷ entry 40 43 End
    ∷ entry 44 44 Blank
    ∷ entry 45 70 Constant
    ∷ entry 71 74 Blank
    ∷ entry 75 80 Free
    ∷ []

-- a card with an unknown form letter is told at that letter at the latest
abbrev pub unknown_layout : List Rule
unknown_layout =
    entry 1 5 Free
    ∷ entry 6 6 Form
    ∷ []

abbrev pub layout_of : Kind → List Rule
layout_of kind.Comment = []
layout_of kind.Record = record_layout
layout_of kind.Field = field_layout
layout_of kind.Calculation = calculation_layout
layout_of kind.OutputRecord = output_record_layout
layout_of kind.OutputField = output_field_layout
layout_of kind.Unknown = unknown_layout

-- the kinds that are read to their last column
abbrev pub is_read : Kind → Bool
is_read kind.Comment = false
is_read kind.Record = true
is_read kind.Field = true
is_read kind.Calculation = true
is_read kind.OutputRecord = true
is_read kind.OutputField = true
is_read kind.Unknown = false

-- a column belongs to an entry of a layout
abbrev pub belongs : ℕ → List Rule → Bool
belongs column [] = false
belongs column (r ∷ rs) = within r.from r.to column || belongs column rs

-- of a card that is read, no column up to the last goes unlooked at
abbrev pub Covers : ℕ → Type 0
Covers last = (kind : Kind) (column : ℕ) → T (is_read kind) → 1 ≤ column → column ≤ last → T (belongs column (layout_of kind))
