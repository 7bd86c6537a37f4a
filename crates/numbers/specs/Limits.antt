-- The limits of a numeric field.
use Rattle.std.specs.Prelude.{ℕ, Bool, ◌&&◌, nat_le}

-- the digits of the widest numeric field
abbrev pub widest : ℕ
widest = 9

-- a field has 1 to 9 digits, and its decimals are among them
abbrev pub is_picture : ℕ → ℕ → Bool
is_picture n d = nat_le 1 n && (nat_le n widest && nat_le d n)
