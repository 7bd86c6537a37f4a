-- Bytes that fit, in columns.
use Rattle.std.proofs.Common.{◌≡◌, ℕ, ◌-◌, ◌≤◌, List, ◌++◌, length, replicate, refl}
use Rattle.std.proofs.lemmas.List.{take_all}
use Rattle.columns.specs.Filling.{blank_filled}

pub filled_behind : (n : ℕ) (bs : List ℕ) → length bs ≤ n → blank_filled n bs ≡ bs ++ replicate (n - length bs) 32
filled_behind n bs h = rw (take_all n bs h) refl
