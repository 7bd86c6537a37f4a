-- An eighty-column listing.
use Rattle.std.specs.Prelude.{◌≡◌, ℕ, ◌+◌, ◌-◌, ◌^◌, min, Bool, true, false, List, [], ◌∷◌, ◌++◌, replicate, Some, None, Ok, Err, Option, Result, slice_index}
use Rattle.characters.specs.Printable.{first_unprintable}
use Rattle.devices.specs.declared.card.Card.{Card}
use Rattle.devices.specs.declared.line_making.LineFault.{LineFault}
use Rattle.devices.specs.declared.line_making.LineFault.TheVariants.{Number, Spacing, Text}
use Rattle.devices.specs.Feeding.{rest_of}
use Rattle.devices.specs.Printed.{Printed}
use Rattle.listing.specs.declared.listing.BadColumn.{BadColumn}
use Rattle.listing.specs.declared.listing.Listed.{Listed}
use Rattle.listing.specs.declared.listing.Listed.TheVariants as listed
use Rattle.listing.specs.declared.listing.ListError.{ListError}
use Rattle.listing.specs.declared.listing.ListError.TheVariants.{Column, Fault}
use Rattle.listing.specs.declared.listing.Stop.{Stop}

-- the columns of a card, and blanks up to the width of a line
abbrev pub listing_text : Card → List ℕ
listing_text c = c.columns ++ replicate 52 32

-- a place without a character is told as a column, which counts from 1, with its byte
abbrev pub or_bad : Option ℕ → List ℕ → Result Printed BadColumn
or_bad None text = Ok (record { number = 1; spacing = 1; text = text })
or_bad (Some i) text = Err (record { column = i + 1; byte = slice_index text i })

-- the line that lists a card, or its first column that cannot be printed
abbrev pub listing_line : Card → Result Printed BadColumn
listing_line c = or_bad (first_unprintable (listing_text c)) (listing_text c)

-- what is answered of a card that was fed
abbrev pub answer_of : {F : Type 0} → Result Printed BadColumn → Result Listed (ListError F)
answer_of (Ok p) = Ok listed.Line
answer_of (Err b) = Err (Column b)

-- what is answered where no card is left
abbrev pub end_of : {F : Type 0} → Option F → Result Listed (ListError F)
end_of None = Ok listed.End
end_of (Some f) = Err (Fault f)

-- what is answered where there is room
abbrev pub fed_as : {F : Type 0} → List Card → Option F → Result Listed (ListError F)
fed_as [] e = end_of e
fed_as (c ∷ cs) e = answer_of (listing_line c)

-- what is answered: without room nothing is fed
abbrev pub listed_as : {F : Type 0} → Bool → List Card → Option F → Result Listed (ListError F)
listed_as true cs e = fed_as cs e
listed_as false cs e = Ok listed.NoRoom

-- the cards to come afterwards
abbrev pub cards_after : Bool → List Card → List Card
cards_after true cs = rest_of cs
cards_after false cs = cs

-- a line behind the others, if there is one
abbrev pub behind : List Printed → Result Printed BadColumn → List Printed
behind ls (Ok p) = ls ++ p ∷ []
behind ls (Err b) = ls

-- the lines held afterwards
abbrev pub lines_after : Bool → List Card → List Printed → List Printed
lines_after true [] ls = ls
lines_after true (c ∷ cs) ls = behind ls (listing_line c)
lines_after false cs ls = ls

-- one step of a listing: the answer, and what became of the cards and the lines
pub record ListsNext {F : Type 0} (r : Result Listed (ListError F)) (room : Bool) (cards : List Card) (ending : Option F) (lines : List Printed) (cards' : List Card) (ending' : Option F) (lines' : List Printed) : Type 0 where
  pub answer : r ≡ listed_as room cards ending
  pub rest : cards' ≡ cards_after room cards
  pub same : ending' ≡ ending
  pub after : lines' ≡ lines_after room cards lines

-- the number and the values of each answer that is a stop: a card that cannot be printed was fed too
abbrev pub stop_of : {F : Type 0} → Result Listed (ListError F) → ℕ → Option Stop
stop_of (Ok listed.Line) n = None
stop_of (Ok listed.NoRoom) n = None
stop_of (Ok listed.End) n = None
stop_of (Err (Column b)) n = Some (record { number = 22; cards = min (n + 1) (2 ^ 64 - 1); column = b.column })
stop_of (Err (Fault f)) n = Some (record { number = 23; cards = n; column = 0 })

-- the column that a line's fault tells; for the private functions alone
abbrev pub bad_in : LineFault → List ℕ → BadColumn
bad_in (Text column) text = record { column = column; byte = slice_index text (column - 1) }
bad_in Number text = record { column = 0; byte = 0 }
bad_in Spacing text = record { column = 0; byte = 0 }
