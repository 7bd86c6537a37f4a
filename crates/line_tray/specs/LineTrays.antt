-- What a line tray means.
use Rattle.std.specs.Prelude.{◌≡◌, ℕ, ◌≤◌, Bool, List, [], map, length, Ok, Err, Result, nat_lt}
use Rattle.std.specs.VecDeque.{deque_items, deque_capacity}
use Rattle.line_tray.specs.declared.LineTray.{LineTray}
use Rattle.devices.specs.declared.refusal.Refusal.{Refusal}
use Rattle.devices.specs.declared.refusal.Refusal.TheVariants.{Small, NoRoom, NoLine, NoMemory}
use Rattle.devices.specs.Meant.{meant}
use Rattle.devices.specs.Printed.{Printed}

-- the lines that it holds, oldest first
abbrev pub tray_lines : LineTray → List Printed
tray_lines t = map meant (deque_items t.held)

-- how many it can hold
abbrev pub tray_places : LineTray → ℕ
tray_places t = deque_capacity t.held

-- it has room while fewer lines are held than it has places
abbrev pub tray_room : LineTray → Bool
tray_room t = nat_lt (length (tray_lines t)) (tray_places t)

-- a new tray is empty and has the places that were asked for; none are refused, and memory may be wanting
abbrev pub LineTrayMade : ℕ → Result LineTray Refusal → Type 0
LineTrayMade places (Ok t) = (1 ≤ places) × (tray_places t ≡ places) × (tray_lines t ≡ [])
LineTrayMade places (Err Small) = places ≡ 0
LineTrayMade places (Err NoMemory) = 1 ≤ places
LineTrayMade places (Err NoRoom) = ⊥
LineTrayMade places (Err NoLine) = ⊥
