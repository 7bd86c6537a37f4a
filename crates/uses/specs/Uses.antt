-- What a card tells by the whole field table: unknown names, and entries of a wrong kind.
use Rattle.std.specs.Prelude.{ℕ, ◌+◌, Bool, true, false, not, ◌&&◌, ◌||◌, List, [], ◌∷◌, is_some, Some, None, Option, nat_le}
use Rattle.std.specs.Option.{option_map}
use Rattle.rules.specs.Rules.{Breach, rule, first}
use Rattle.rules.specs.declared.refusal.Refusal.TheVariants.{Unknown, Kind}
use Rattle.images.specs.declared.edits.EditCode.{EditCode}
use Rattle.images.specs.Images.{image_width}
use Rattle.numbers.specs.Limits.{is_picture}
use Rattle.operations.specs.declared.Operation.{Operation}
use Rattle.operations.specs.declared.Operation.TheVariants.{Add, Sub, Mult, Div, ZAdd, ZSub, Comp, Move, SetOn, SetOf}
use Rattle.cards.specs.declared.kinds.Shape.{Shape}
use Rattle.cards.specs.declared.kinds.Shape.TheVariants.{Number, Text}
use Rattle.cards.specs.declared.kinds.Factor.{Factor}
use Rattle.cards.specs.declared.kinds.Factor.TheVariants as factor
use Rattle.cards.specs.declared.kinds.Printed.{Printed}
use Rattle.cards.specs.declared.kinds.Printed.TheVariants as printed
use Rattle.cards.specs.declared.kinds.DeckCard.{DeckCard}
use Rattle.cards.specs.declared.kinds.DeckCard.TheVariants.{Comment, Record, Field, Calculation, OutputRecord, OutputField}
use Rattle.fields.specs.Fields.{Fields, is_known, shape_of}

-- a name that is used is known
abbrev pub knows : Fields → Option (List ℕ) → Bool
knows f None = true
knows f (Some n) = is_known f n

abbrev pub factor_name : Option Factor → Option (List ℕ)
factor_name None = None
factor_name (Some (factor.Field n)) = Some n
factor_name (Some (factor.Number l)) = None
factor_name (Some (factor.Text n)) = None

abbrev pub printed_name : Printed → Option (List ℕ)
printed_name (printed.Field n e b) = Some n
printed_name (printed.Constant e n) = None

abbrev pub unknowns : Fields → DeckCard → Option Breach
unknowns f Comment = None
unknowns f (Record r) = None
unknowns f (Field i) = None
unknowns f (Calculation c) = first (
    rule Unknown 18 (knows f c.factor1)
    ∷ rule Unknown 33 (knows f (factor_name c.factor2))
    ∷ rule Unknown 43 (knows f c.result)
    ∷ [])
unknowns f (OutputRecord o) = None
unknowns f (OutputField o) = rule Unknown 32 (knows f (printed_name o.printed))

-- the shape of an entry, if it is filled; only the kind of a text literal is asked, and no bytes stand for its length
abbrev pub factor_shape : Fields → Option Factor → Option Shape
factor_shape f None = None
factor_shape f (Some (factor.Field n)) = Some (shape_of f n)
factor_shape f (Some (factor.Number l)) = Some (Number l.digits l.decimals)
factor_shape f (Some (factor.Text n)) = Some (Text 0)

abbrev pub is_numeric : Shape → Bool
is_numeric (Number m d) = true
is_numeric (Text n) = false

abbrev pub numeric_in : Option Shape → Bool
numeric_in None = true
numeric_in (Some s) = is_numeric s

abbrev pub text_in : Option Shape → Bool
text_in None = true
text_in (Some s) = not (is_numeric s)

abbrev pub same_kind : Option Shape → Option Shape → Bool
same_kind x y = (numeric_in x && numeric_in y) || (text_in x && text_in y)

-- the decimals of a number, and none of text
abbrev pub decimals_of : Option Shape → ℕ
decimals_of None = 0
decimals_of (Some (Number n d)) = d
decimals_of (Some (Text n)) = 0

-- of three numbers, the decimals of the result and the divisor are at most nine more than those of the dividend
abbrev pub divides : Option Shape → Option Shape → Option Shape → Bool
divides x y z = not (numeric_in x && numeric_in y && numeric_in z) || nat_le (decimals_of z + decimals_of y) (decimals_of x + 9)

-- arithmetic takes numbers
abbrev pub arithmetic : Option Shape → Option Shape → Option Shape → Option Breach
arithmetic x y z = first (rule Kind 18 (numeric_in x) ∷ rule Kind 33 (numeric_in y) ∷ rule Kind 43 (numeric_in z) ∷ [])

abbrev pub division : Option Shape → Option Shape → Option Shape → Option Breach
division x y z = first (rule Kind 18 (numeric_in x) ∷ rule Kind 28 (divides x y z) ∷ rule Kind 33 (numeric_in y) ∷ rule Kind 43 (numeric_in z) ∷ [])

-- arithmetic with a rule on column 28, which a division asks and nothing else
abbrev pub arithmetic_with : Bool → Option Shape → Option Shape → Option Shape → Option Breach
arithmetic_with kept x y z = first (rule Kind 18 (numeric_in x) ∷ rule Kind 28 kept ∷ rule Kind 33 (numeric_in y) ∷ rule Kind 43 (numeric_in z) ∷ [])

-- the kinds that an operation asks of factor 1, factor 2 and the result
abbrev pub kinds_for : Option Operation → Option Shape → Option Shape → Option Shape → Option Breach
kinds_for None x y z = None
kinds_for (Some Add) x y z = arithmetic x y z
kinds_for (Some Sub) x y z = arithmetic x y z
kinds_for (Some Mult) x y z = arithmetic x y z
kinds_for (Some Div) x y z = division x y z
kinds_for (Some ZAdd) x y z = arithmetic x y z
kinds_for (Some ZSub) x y z = arithmetic x y z
kinds_for (Some Comp) x y z = rule Kind 33 (same_kind x y)
kinds_for (Some Move) x y z = first (rule Kind 33 (text_in y) ∷ rule Kind 43 (text_in z) ∷ [])
kinds_for (Some SetOn) x y z = None
kinds_for (Some SetOf) x y z = None

-- the columns of a field that end in a column do not begin left of column 1
abbrev pub has_columns : Shape → Option EditCode → ℕ → Bool
has_columns (Number n d) e end = is_picture n d && nat_le (image_width e n d) end
has_columns (Text n) e end = nat_le n end

-- only a number is edited
abbrev pub prints_shape : Shape → Option EditCode → ℕ → Option Breach
prints_shape s e end = first (rule Kind 38 (not (is_some e) || is_numeric s) ∷ rule Kind 40 (has_columns s e end) ∷ [])

abbrev pub prints : Fields → Printed → ℕ → Option Breach
prints f (printed.Field n e b) end = prints_shape (shape_of f n) e end
prints f (printed.Constant e n) end = first (rule Kind 38 (not (is_some e)) ∷ rule Kind 40 (nat_le n end) ∷ [])

abbrev pub kinds : Fields → DeckCard → Option Breach
kinds f Comment = None
kinds f (Record r) = None
kinds f (Field i) = None
kinds f (Calculation c) = kinds_for c.operation (option_map (shape_of f) c.factor1) (factor_shape f c.factor2) (option_map (shape_of f) c.result)
kinds f (OutputRecord o) = None
kinds f (OutputField o) = prints f o.printed o.end

-- the first breach of a card: unknown names by column, then kinds by column
abbrev pub uses_told : Fields → DeckCard → Option Breach
uses_told f c = first (unknowns f c ∷ kinds f c ∷ [])
