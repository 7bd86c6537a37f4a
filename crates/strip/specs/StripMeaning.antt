-- What a strip means.
use Rattle.std.specs.Prelude.{◌≡◌, ℕ, ◌+◌, ◌-◌, ◌<◌, ◌≤◌, Bool, true, false, List, [], ◌∷◌, length, drop, Ok, Err, vec_items, vec_len, Result, nat_le}
use Rattle.devices.specs.declared.refusal.Refusal.{Refusal}
use Rattle.devices.specs.declared.refusal.Refusal.TheVariants.{Small, NoRoom, NoLine, NoMemory}
use Rattle.strip.specs.declared.Strip.{Strip}
use Rattle.devices.specs.Printed.{Printed}
use Rattle.strip.specs.Strips.{rendered}
use Rattle.strip.specs.StripReading.{lines_in}

-- the bytes that are not torn off
abbrev pub strip_rest : Strip → List ℕ
strip_rest t = drop t.first (vec_items t.held)

-- the lines that it holds, oldest first
abbrev pub strip_lines : Strip → List Printed
strip_lines t = lines_in (strip_rest t)

-- how many bytes it has
abbrev pub strip_size : Strip → ℕ
strip_size t = t.size

-- how many of them are written, up to the end of the last line
abbrev pub strip_used : Strip → ℕ
strip_used t = vec_len t.held

-- it has room while 139 bytes follow the last written
abbrev pub strip_room : Strip → Bool
strip_room t = nat_le 139 (strip_size t - strip_used t)

-- a line that is taken is written behind the last
abbrev pub used_with : Bool → ℕ → Printed → ℕ
used_with true n p = n + length (rendered p)
used_with false n p = n

-- torn off bytes are not used again until no line is left: then the strip starts at its front again
abbrev pub used_after : List Printed → ℕ → ℕ
used_after [] n = 0
used_after (p ∷ ps) n = n

-- a new strip is empty and has the size that was asked for; under 139 bytes it is refused, and memory may be wanting
abbrev pub StripMade : ℕ → Result Strip Refusal → Type 0
StripMade size (Ok t) = (139 ≤ size) × (strip_size t ≡ size) × (strip_used t ≡ 0) × (strip_lines t ≡ [])
StripMade size (Err Small) = size < 139
StripMade size (Err NoMemory) = 139 ≤ size
StripMade size (Err NoRoom) = ⊥
StripMade size (Err NoLine) = ⊥
