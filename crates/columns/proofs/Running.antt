-- A run goes on to the first byte of another class.
use Rattle.std.proofs.Common.{◌≡◌, ℕ, ◌≤◌, not, List, [], ◌∷◌, length, unwrap_or, refl, arith}
use Rattle.std.specs.List.{position, position_or_len}
use Rattle.std.proofs.lemmas.List.Sums.{prefix_len-le-length}
use Rattle.std.proofs.lemmas.Bool.Decides.{nat_tests}
use Rattle.columns.specs.declared.kinds.Class.{Class}
use Rattle.columns.specs.Classes.{is_of, run}

pub run_is : (k : Class) (s : List ℕ) → run k s ≡ position_or_len (λ b. not (is_of k b)) s
run_is k [] = refl
run_is k (b ∷ s) = rw (run_is k s) (grind arith)

pub run_from_position : (k : Class) (s : List ℕ) → unwrap_or (position (λ b. not (is_of k b)) s) (length s) ≡ run k s
run_from_position k s =
    let n = position_or_len (λ b. not (is_of k b)) s in
    let within : n ≤ length s = prefix_len-le-length (λ b. not (not (is_of k b))) s in
    rw (run_is k s) (grind (arith, nat_tests, within))
