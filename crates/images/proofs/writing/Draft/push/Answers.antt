use Rattle.std.proofs.Common.{◌≡◌, ℕ, ◌+◌, ◌<◌, ◌≤◌, List, [], ◌∷◌, ◌++◌, length, take, set, slice_range, refl, arith}
use Rattle.std.proofs.lemmas.Slice.{between_is}
use Rattle.std.proofs.lemmas.List.{take_more_set, length-take-le}
use Rattle.std.proofs.lemmas.List.Edits.{length-between}
use Rattle.std.proofs.lemmas.Grind.{common_steps}
use Rattle.images.proofs.writing.Draft.push.Goals as goal

columns_pushed : (l : List ℕ) (at end b : ℕ) → at ≤ end → end < length l → slice_range (set l end b) at (end + 1) ≡ slice_range l at end ++ b ∷ []
columns_pushed l at end b h k =
    let n : length (take end l) ≡ end = length-take-le end l (omega arith) in
    rw (between_is (set l end b) at (end + 1), between_is l at end, take_more_set l end b k) (grind (arith, common_steps))

pub returns : goal.returns
returns c =
    let d = c.self.inside in
    let i = c.self.invariant in
    let p = columns_pushed d.bytes d.at d.end c.args.byte i.0 (omega (arith, i.0, i.1, c.self.told, rw (← c.self.view_is) at c.requires, length-between d.bytes d.at d.end (omega (arith, i.1, c.self.told)))) in
    rw (← c.self.view_is, p) refl
