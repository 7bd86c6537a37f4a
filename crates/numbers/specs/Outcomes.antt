-- What a call that makes an amount answers, told by the amount's count.
use Rattle.std.specs.Prelude.{◌≡◌, ℤ, Ok, Err, Result}
use Rattle.numbers.specs.declared.amount.Amount.{Amount}
use Rattle.numbers.specs.declared.picture.Picture.{Picture}

-- the count of the amount, or why there is none
abbrev pub counted : {E : Type 0} → Result Amount E → Result ℤ E
counted (Ok a) = Ok a.count
counted (Err e) = Err e

-- an amount that is made has the picture that was asked for
abbrev pub Pictured : {E : Type 0} → Result Amount E → Picture → Type 0
Pictured (Ok a) p = a.picture ≡ p
Pictured (Err e) p = Unit {0}
