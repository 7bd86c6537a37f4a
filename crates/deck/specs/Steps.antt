-- How far the reading of a deck has come, by the answer of each of its parts.
use Rattle.std.specs.Prelude.{◌≡◌, ℕ, suc, List, Some, None, Ok, Err, Option, Result}
use Rattle.rules.specs.Rules.{first, IsFirst}
use Rattle.cards.specs.Punches.{kind_of, rank_of}
use Rattle.meanings.specs.Meanings.{card_of}
use Rattle.fields.specs.Fields.{Fields}
use Rattle.deck.specs.declared.kinds.Breach.{Breach}
use Rattle.deck.specs.declared.kinds.ReadError.{ReadError}
use Rattle.deck.specs.declared.kinds.ReadError.TheVariants.{Refused, NoMemory}
use Rattle.deck.specs.Acted.{Acted, act}
use Rattle.deck.specs.Decks.{numbered, first_telling, second_telling, first_at, second_at, first_sweep, second_sweep, defined_by, seen_by, acted_by, rules, count, Table, deck_of}
use Rattle.deck.specs.Defined.{Defined, Before, define, see}

-- a deck that tells a breach is refused
abbrev pub RefusedBy : Option Breach → Result (Unit {0}) ReadError → Type 0
RefusedBy told (Ok x) = told ≡ None
RefusedBy told (Err (Refused b)) = told ≡ Some b
RefusedBy told (Err NoMemory) = ⊥

-- what is told is the answer, and where nothing is told something is done
abbrev pub DoneUnless : Option Breach → Type 0 → Result (Unit {0}) ReadError → Type 0
DoneUnless told done (Ok x) = (told ≡ None) × done
DoneUnless told done (Err (Refused b)) = told ≡ Some b
DoneUnless told done (Err NoMemory) = Unit {0}

-- behind the definitions d and the cards b a card c at place k is taken in, or its first telling is the answer
abbrev pub Takes : Defined → Before → ℕ → List ℕ → Result (Unit {0}) ReadError → Defined → Before → Type 0
Takes d b k c r e s =
    DoneUnless (numbered k (first_telling d b c)) ((e ≡ define d (card_of c)) × (s ≡ see b (rank_of (kind_of c) c) (card_of c))) r

-- the card at place k was taken in, or its first telling is the answer
abbrev pub TakenIn : List ℕ → ℕ → Result (Unit {0}) ReadError → Defined → Before → Type 0
TakenIn text k r d b = DoneUnless (first_at text k) ((d ≡ defined_by text (suc k)) × (b ≡ seen_by text (suc k))) r

abbrev pub AllTakenIn : List ℕ → Result (Unit {0}) ReadError → Defined → Type 0
AllTakenIn text r d = DoneUnless (first (first_sweep text)) (d ≡ defined_by text (count text)) r

-- behind the actions a the names of a card c at place k are looked up, or its second telling is the answer
abbrev pub LooksUp : Fields → Acted → ℕ → List ℕ → Result (Unit {0}) ReadError → Acted → Type 0
LooksUp f a k c r b = DoneUnless (numbered k (second_telling f c)) (b ≡ act f k a (card_of c)) r

-- the card at place k was looked up, or its second telling is the answer
abbrev pub LookedUp : List ℕ → ℕ → Result (Unit {0}) ReadError → Acted → Type 0
LookedUp text k r a = DoneUnless (second_at text k) (a ≡ acted_by text (suc k)) r

abbrev pub AllLookedUp : List ℕ → Result (Unit {0}) ReadError → Acted → Type 0
AllLookedUp text r a = DoneUnless (first (second_sweep text)) (a ≡ acted_by text (count text)) r

-- the table was filled, or the first breach is the answer
abbrev pub Filled : List ℕ → Result (Unit {0}) ReadError → Table → Type 0
Filled text (Ok x) t = IsFirst (rules text) None × (t ≡ deck_of text)
Filled text (Err (Refused b)) t = IsFirst (rules text) (Some b)
Filled text (Err NoMemory) t = Unit {0}
