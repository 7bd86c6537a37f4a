-- An image while it is written.
use Rattle.std.specs.Prelude.{ℕ, ◌-◌, cond, ◌||◌, List, [], ◌∷◌, ◌++◌, length, ◌==◌}

-- how many columns are still free in front, and the written ones behind them
pub record Drafted : Type 0 where
  pub room : ℕ
  pub written : List ℕ

-- xs written, and no column free
abbrev pub full : List ℕ → Drafted
full xs = record { room = 0; written = xs }

-- xs put before what is written
abbrev pub fronted : List ℕ → Drafted → Drafted
fronted xs d = record { room = d.room - length xs; written = xs ++ d.written }

-- xs put behind what is written
abbrev pub followed : List ℕ → Drafted → Drafted
followed xs d = record { room = d.room; written = d.written ++ xs }

-- zeros and commas before the first other column are blanked
abbrev pub fills_blanked : List ℕ → List ℕ
fills_blanked [] = []
fills_blanked (c ∷ cs) = cond (c == 48 || c == 44) (32 ∷ fills_blanked cs) (c ∷ cs)
