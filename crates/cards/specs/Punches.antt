-- What each rule of a layout tells of a card's columns.
use Rattle.std.specs.Prelude.{ℕ, ◌+◌, ◌-◌, Bool, true, false, cond, not, ◌&&◌, ◌||◌, List, [], ◌∷◌, is_some, Some, None, Option, ◌==◌, nat_le, slice_index}
use Rattle.columns.specs.Classes.{columns, within, is_of, all_of, is_blank}
use Rattle.entries.specs.Entries.{is_name, is_number, value_of}
use Rattle.entries.specs.Indicators.{indicator_of, among, is_blank_or, is_condition}
use Rattle.entries.specs.Literals.{is_text, is_numeric}
use Rattle.rules.specs.Rules.{Breach, rule, punch, each, first}
use Rattle.columns.specs.declared.kinds.Class.TheVariants as class
use Rattle.rules.specs.declared.refusal.Refusal.TheVariants.{Order}
use Rattle.images.specs.Edits.{code_of}
use Rattle.operations.specs.Operations.{operation_of, takes_of}
use Rattle.operations.specs.declared.Operation as operation
use Rattle.operations.specs.declared.Takes.{Takes}
use Rattle.cards.specs.declared.kinds.Kind.{Kind}
use Rattle.cards.specs.declared.kinds.Kind.TheVariants as kind
use Rattle.cards.specs.declared.kinds.Rule.{Rule}
use Rattle.cards.specs.declared.kinds.What.{What}
use Rattle.cards.specs.declared.kinds.What.TheVariants.{Free, Blank, Form, RecordIndicator, Code, From, To, FieldDecimals, Name, ControlLevel, SignIndicator, Settable, TotalLevel, Condition, Factor1, Operation, Factor2, Result, Length, ResultDecimals, HalfAdjust, Told, Sets, LineKind, Spacing, OptionalName, Edit, BlankAfter, End, Constant}

-- the form letter in column 6; the letters are I 73, C 67, O 79, and an asterisk in column 7 makes a comment
abbrev pub form_of : List ℕ → ℕ
form_of c = slice_index c 5

-- a record card is told from a field card by any punch in the columns of its indicator or line kind
abbrev pub kind_of : List ℕ → Kind
kind_of c =
    cond (slice_index c 6 == 42) kind.Comment
    (cond (form_of c == 73) (cond (is_blank (columns c 19 20)) kind.Field kind.Record)
    (cond (form_of c == 67) kind.Calculation
    (cond (form_of c == 79) (cond (is_blank (columns c 15 15)) kind.OutputField kind.OutputRecord)
    kind.Unknown)))

-- the order of cards: input 1, detail calculations 2, total calculations 3, output 4
abbrev pub rank_of : Kind → List ℕ → ℕ
rank_of kind.Comment c = 0
rank_of kind.Record c = 1
rank_of kind.Field c = 1
rank_of kind.Calculation c = cond (is_blank (columns c 7 8)) 2 3
rank_of kind.OutputRecord c = 4
rank_of kind.OutputField c = 4
rank_of kind.Unknown c = 0

-- no card before has a higher rank, and a field card follows a card of its own form
abbrev pub follows : Kind → ℕ → List ℕ → Bool
follows kind.Comment highest c = true
follows kind.Record highest c = nat_le highest 1
follows kind.Field highest c = highest == 1
follows kind.Calculation highest c = nat_le highest (rank_of kind.Calculation c)
follows kind.OutputRecord highest c = nat_le highest 4
follows kind.OutputField highest c = highest == 4
follows kind.Unknown highest c = false

-- a position on a data card
abbrev pub is_position : List ℕ → Bool
is_position s = is_number s && within 1 80 (value_of s)

-- a position, N or blank, C, and a character
abbrev pub is_filled_code : List ℕ → Bool
is_filled_code s =
    is_position (columns s 1 4) && (slice_index s 4 == 32 || slice_index s 4 == 78)
    && slice_index s 5 == 67 && is_of class.Printable (slice_index s 6)

abbrev pub is_code : List ℕ → Bool
is_code s = is_blank s || is_filled_code s

-- a field's width, from the columns of its first and last position
abbrev pub width_of : List ℕ → List ℕ → ℕ
width_of from to = value_of to + 1 - value_of from

-- the widest number has 9 digits, the widest text 32 bytes; any punch for decimals makes a number
abbrev pub widest : List ℕ → ℕ
widest decimals = cond (is_blank decimals) 32 9

-- not before the first position, and not too far behind it
abbrev pub is_to : List ℕ → List ℕ → List ℕ → Bool
is_to from to decimals = is_position to && nat_le (value_of from) (value_of to) && nat_le (width_of from to) (widest decimals)

-- blank, or a digit that is no more than the digits of the field
abbrev pub is_field_decimals : List ℕ → List ℕ → List ℕ → Bool
is_field_decimals from to decimals = is_blank decimals || (all_of class.Digit decimals && nat_le (value_of decimals) (width_of from to))

-- only a number tells plus and minus
abbrev pub is_sign_indicator : List ℕ → List ℕ → Bool
is_sign_indicator decimals s = is_blank_or 1 99 s && (is_blank s || not (is_blank decimals))

-- an entry that is taken is filled, and one that is not is blank
abbrev pub is_filled : Bool → List ℕ → Bool
is_filled taken s = cond taken (not (is_blank s)) (is_blank s)

-- and what is taken goes by the operation, if it is known
abbrev pub is_asked : (Takes → Bool) → Option operation.Operation → List ℕ → Bool
is_asked entry None s = true
is_asked entry (Some o) s = is_filled (entry (takes_of o)) s

-- an entry is blank, unless the operation is one of those that may have it
abbrev pub is_allowed : (Takes → Bool) → Option operation.Operation → List ℕ → Bool
is_allowed may None s = true
is_allowed may (Some o) s = may (takes_of o) || is_blank s

-- a name, or nothing
abbrev pub is_optional_name : List ℕ → Bool
is_optional_name s = is_blank s || is_name s

abbrev pub is_factor1 : Option operation.Operation → List ℕ → Bool
is_factor1 op s = is_optional_name s && is_asked (λ t. t.factor1) op s

abbrev pub is_factor2 : Option operation.Operation → List ℕ → Bool
is_factor2 op s = (is_blank s || is_name s || is_numeric s || is_text s) && is_asked (λ t. t.factor2) op s

abbrev pub is_result : Option operation.Operation → List ℕ → Bool
is_result op s = is_optional_name s && is_asked (λ t. t.result) op s

-- a length that a number or a text may have
abbrev pub is_size : List ℕ → List ℕ → Bool
is_size s decimals = is_number s && within 1 (widest decimals) (value_of s)

-- the length of a result that the card defines
abbrev pub is_length : Option operation.Operation → List ℕ → List ℕ → Bool
is_length op s decimals = is_blank s || (is_size s decimals && is_allowed (λ t. t.result) op s)

-- decimals stand only beside a length, and are no more than it
abbrev pub is_result_decimals : List ℕ → List ℕ → Bool
is_result_decimals s decimals =
    is_blank decimals || (all_of class.Digit decimals && not (is_blank s) && nat_le (value_of decimals) (value_of s))

abbrev pub is_half_adjust : Option operation.Operation → List ℕ → Bool
is_half_adjust op s = is_blank s || (slice_index s 0 == 72 && is_allowed (λ t. t.half_adjust) op s)

abbrev pub is_told : Option operation.Operation → List ℕ → Bool
is_told op s = is_blank_or 1 99 s && is_allowed (λ t. t.tells) op s

-- an operation that sets indicators names one
abbrev pub names_one : Option operation.Operation → List ℕ → Bool
names_one None s = true
names_one (Some o) s = not (takes_of o).sets || not (is_blank s)

-- H, D or T
abbrev pub is_line_kind : List ℕ → Bool
is_line_kind s = slice_index s 0 == 72 || slice_index s 0 == 68 || slice_index s 0 == 84

-- blank or 1 to 3
abbrev pub is_spacing : List ℕ → Bool
is_spacing s = is_blank s || within 49 51 (slice_index s 0)

abbrev pub is_edit : List ℕ → Bool
is_edit s = is_blank s || is_some (code_of (slice_index s 0))

-- blank, or B beside a name
abbrev pub is_blank_after : List ℕ → List ℕ → Bool
is_blank_after name s = is_blank s || (slice_index s 0 == 66 && not (is_blank name))

abbrev pub is_end : List ℕ → Bool
is_end s = is_number s && within 1 132 (value_of s)

-- a constant stands where no name does, and only there
abbrev pub is_constant : List ℕ → List ℕ → Bool
is_constant name s = cond (is_blank name) (is_text s) (is_blank s)

-- the operation of a calculation card
abbrev pub operation_in : List ℕ → Option operation.Operation
operation_in c = operation_of (columns c 28 32)

-- what the rule of columns a to b tells of a card, where `highest` is the highest rank of the cards before it
abbrev pub tells : ℕ → List ℕ → What → ℕ → ℕ → Option Breach
tells highest c Free a b = each class.Printable c a b
tells highest c Blank a b = each class.Blank c a b
tells highest c Form a b = rule Order a (follows (kind_of c) highest c)
tells highest c RecordIndicator a b = punch a (among 1 99 (indicator_of (columns c a b)))
tells highest c Code a b = punch a (is_code (columns c a b))
tells highest c From a b = punch a (is_position (columns c a b))
tells highest c To a b = punch a (is_to (columns c 44 47) (columns c a b) (columns c 52 52))
tells highest c FieldDecimals a b = punch a (is_field_decimals (columns c 44 47) (columns c 48 51) (columns c a b))
tells highest c Name a b = punch a (is_name (columns c a b))
tells highest c ControlLevel a b = punch a (is_blank_or 101 109 (columns c a b))
tells highest c SignIndicator a b = punch a (is_sign_indicator (columns c 52 52) (columns c a b))
tells highest c Settable a b = punch a (is_blank_or 1 99 (columns c a b))
tells highest c TotalLevel a b = punch a (is_blank_or 100 110 (columns c a b))
tells highest c Condition a b = punch a (is_condition (columns c a b))
tells highest c Factor1 a b = punch a (is_factor1 (operation_in c) (columns c a b))
tells highest c Operation a b = punch a (is_some (operation_in c))
tells highest c Factor2 a b = punch a (is_factor2 (operation_in c) (columns c a b))
tells highest c Result a b = punch a (is_result (operation_in c) (columns c a b))
tells highest c Length a b = punch a (is_length (operation_in c) (columns c a b) (columns c 52 52))
tells highest c ResultDecimals a b = punch a (is_result_decimals (columns c 49 51) (columns c a b))
tells highest c HalfAdjust a b = punch a (is_half_adjust (operation_in c) (columns c a b))
tells highest c Told a b = punch a (is_told (operation_in c) (columns c a b))
tells highest c Sets a b = punch a (names_one (operation_in c) (columns c a b))
tells highest c LineKind a b = punch a (is_line_kind (columns c a b))
tells highest c Spacing a b = punch a (is_spacing (columns c a b))
tells highest c OptionalName a b = punch a (is_optional_name (columns c a b))
tells highest c Edit a b = punch a (is_edit (columns c a b))
tells highest c BlankAfter a b = punch a (is_blank_after (columns c 32 37) (columns c a b))
tells highest c End a b = punch a (is_end (columns c a b))
tells highest c Constant a b = punch a (is_constant (columns c 32 37) (columns c a b))

-- what the rules of a layout tell of a card, and the first that is broken
abbrev pub first_of : ℕ → List ℕ → List Rule → Option Breach
first_of highest c [] = None
first_of highest c (r ∷ rs) = first (tells highest c r.what r.from r.to ∷ first_of highest c rs ∷ [])
