-- How lines are written on a strip.
use Rattle.std.specs.Prelude.{ℕ, ◌+◌, ◌/◌, ◌%◌, cond, List, [], ◌∷◌, ◌++◌, ◌==◌, nat_lt}
use Rattle.devices.specs.Printed.{Printed}

-- a number of up to three digits, without zeros before it
abbrev pub numeral : ℕ → List ℕ
numeral n = cond (nat_lt n 10) ((48 + n) ∷ []) (cond (nat_lt n 100) ((48 + n / 10) ∷ (48 + n % 10) ∷ []) ((48 + n / 100) ∷ (48 + n / 10 % 10) ∷ (48 + n % 10) ∷ []))

-- a byte before trimmed text: a blank before nothing goes too
abbrev pub joined_to : ℕ → List ℕ → List ℕ
joined_to b [] = cond (b == 32) [] (b ∷ [])
joined_to b (c ∷ cs) = b ∷ c ∷ cs

-- text without its trailing blanks
abbrev pub trimmed : List ℕ → List ℕ
trimmed [] = []
trimmed (b ∷ bs) = joined_to b (trimmed bs)

-- the number, a comma, the spacing, a comma, and the text without its trailing blanks
abbrev pub body : Printed → List ℕ
body p = numeral p.number ++ 44 ∷ (numeral p.spacing ++ 44 ∷ trimmed p.text)

-- a line ends with byte 10
abbrev pub rendered : Printed → List ℕ
rendered p = body p ++ 10 ∷ []

-- lines are written one after another
abbrev pub strips : List Printed → List ℕ
strips [] = []
strips (p ∷ ps) = rendered p ++ strips ps
