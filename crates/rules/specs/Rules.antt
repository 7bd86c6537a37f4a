-- Rules in telling order, and the first one that is broken.
use Rattle.std.specs.Prelude.{◌≡◌, ℕ, ◌+◌, ◌<◌, Bool, cond, List, [], ◌∷◌, length, Some, None, Option, nat_lt, slice_index_or}
use Rattle.columns.specs.declared.kinds.Class.{Class}
use Rattle.rules.specs.declared.refusal.Refusal.{Refusal}
use Rattle.rules.specs.declared.refusal.Refusal.TheVariants.{Punch}
use Rattle.columns.specs.Classes.{run, columns}

-- a breach on a card: the refusal and the column that it tells
abbrev pub Breach : Type 0
Breach = Refusal × ℕ

-- what a rule tells: nothing if it is kept
abbrev pub rule : Refusal → ℕ → Bool → Option Breach
rule refusal column kept = cond kept None (Some (refusal, column))

-- an entry that may not stand there is told at its first column
abbrev pub punch : ℕ → Bool → Option Breach
punch column kept = rule Punch column kept

-- columns a to b, each for itself, hold bytes of a class: the first that does not is told
abbrev pub each : Class → List ℕ → ℕ → ℕ → Option Breach
each k c a b = let s = columns c a b in cond (nat_lt (run k s) (length s)) (Some (Punch, a + run k s)) None

-- the first rule that tells something
abbrev pub first : {X : Type 0} → List (Option X) → Option X
first [] = None
first (None ∷ rs) = first rs
first (Some b ∷ rs) = Some b

-- an answer is the first breach: every rule before it is kept, and where there is none all are
abbrev pub IsFirst : {X : Type 0} → List (Option X) → Option X → Type 0
IsFirst {X} rs None = (i : ℕ) → slice_index_or rs i None ≡ None
IsFirst {X} rs (Some b) = (i : ℕ) × (slice_index_or rs i None ≡ Some b) × ((j : ℕ) → j < i → slice_index_or rs j None ≡ None)
