-- Every column from 1 to 80 belongs to an entry of each layout, by one test that computes.
use Rattle.std.proofs.Common.{◌≡◌, ℕ, ◌+◌, ◌-◌, ◌≤◌, Bool, true, T, refl, subst, arith}
use Rattle.std.proofs.lemmas.Bool.{agree_below, agree_below_at}
use Rattle.std.proofs.lemmas.Float.{T_from_true}
use Rattle.cards.specs.declared.kinds.Kind.TheVariants.{Comment, Record, Field, Calculation, OutputRecord, OutputField, Unknown}
use Rattle.cards.specs.Layouts.{layout_of, belongs, Covers}

every_column : (f : ℕ → Bool) → agree_below (λ k. f (k + 1)) (λ _. true) 80 ≡ true → (column : ℕ) → 1 ≤ column → column ≤ 80 → T (f column)
every_column f t column low high =
    let e : column - 1 + 1 ≡ column = omega arith in
    subst (λ (m : ℕ). T (f m)) e (T_from_true _ (agree_below_at (λ k. f (k + 1)) (λ _. true) 80 (column - 1) t (omega arith)))

pub covers : Covers 80
covers Comment column read = absurd read
covers Record column read = every_column (λ k. belongs k (layout_of Record)) refl column
covers Field column read = every_column (λ k. belongs k (layout_of Field)) refl column
covers Calculation column read = every_column (λ k. belongs k (layout_of Calculation)) refl column
covers OutputRecord column read = every_column (λ k. belongs k (layout_of OutputRecord)) refl column
covers OutputField column read = every_column (λ k. belongs k (layout_of OutputField)) refl column
covers Unknown column read = absurd read
