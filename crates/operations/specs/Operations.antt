-- The operations: how they are punched, and which entries each takes.
use Rattle.std.specs.Prelude.{ℕ, suc, Bool, true, false, cond, ◌&&◌, List, [], ◌∷◌, length, Some, None, codes, Option, ◌==◌, slice_index}
use Rattle.std.specs.Option.{option_or}
use Rattle.operations.specs.declared.Operation.{Operation}
use Rattle.operations.specs.declared.Operation.TheVariants.{Add, Sub, Mult, Div, ZAdd, ZSub, Comp, Move, SetOn, SetOf}
use Rattle.operations.specs.declared.Takes.{Takes}

-- the bytes of a word stand in s from the place i on
abbrev pub spells : List ℕ → ℕ → List ℕ → Bool
spells s i [] = true
spells s i (c ∷ word) = slice_index s i == c && spells s (suc i) word

-- s is the word
abbrev pub reads : List ℕ → List ℕ → Bool
reads s word = length s == length word && spells s 0 word

-- arithmetic on two factors
abbrev pub arithmetic_of : List ℕ → Option Operation
arithmetic_of s =
    cond (reads s (codes "ADD  ")) (Some Add) (
    cond (reads s (codes "SUB  ")) (Some Sub) (
    cond (reads s (codes "MULT ")) (Some Mult) (
    cond (reads s (codes "DIV  ")) (Some Div) (
    None))))

-- arithmetic with 0 for the first factor
abbrev pub zeroing_of : List ℕ → Option Operation
zeroing_of s =
    cond (reads s (codes "Z-ADD")) (Some ZAdd) (
    cond (reads s (codes "Z-SUB")) (Some ZSub) (
    None))

-- what does no arithmetic
abbrev pub other_of : List ℕ → Option Operation
other_of s =
    cond (reads s (codes "COMP ")) (Some Comp) (
    cond (reads s (codes "MOVE ")) (Some Move) (
    cond (reads s (codes "SETON")) (Some SetOn) (
    cond (reads s (codes "SETOF")) (Some SetOf) (
    None))))

-- the operation that five columns name
abbrev pub operation_of : List ℕ → Option Operation
operation_of s = option_or (option_or (arithmetic_of s) (zeroing_of s)) (other_of s)

abbrev pub takes : Bool → Bool → Bool → Bool → Bool → Bool → Takes
takes f s r h t k = record { factor1 = f; factor2 = s; result = r; half_adjust = h; tells = t; sets = k }

-- factor 1, factor 2, result, half adjust, may tell by indicators, sets indicators
abbrev pub takes_of : Operation → Takes
takes_of Add = takes true true true true true false
takes_of Sub = takes true true true true true false
takes_of Mult = takes true true true true true false
takes_of Div = takes true true true true true false
takes_of ZAdd = takes false true true true true false
takes_of ZSub = takes false true true true true false
takes_of Comp = takes true true false false true false
takes_of Move = takes false true true false false false
takes_of SetOn = takes false false false false true true
takes_of SetOf = takes false false false false true true

-- the word that an operation is punched by, before the blanks that fill its columns
abbrev pub word_of : Operation → List ℕ
word_of Add = codes "ADD"
word_of Sub = codes "SUB"
word_of Mult = codes "MULT"
word_of Div = codes "DIV"
word_of ZAdd = codes "Z-ADD"
word_of ZSub = codes "Z-SUB"
word_of Comp = codes "COMP"
word_of Move = codes "MOVE"
word_of SetOn = codes "SETON"
word_of SetOf = codes "SETOF"
