use Rattle.std.proofs.Common.{◌≡◌, ℕ, suc, ◌+◌, ◌-◌, ◌<◌, ◌≤◌, List, ◌∷◌, length, set, slice_range, refl, arith}
use Rattle.std.proofs.lemmas.List.{drop-set}
use Rattle.images.proofs.writing.Draft.put.Goals as goal

columns_put : (l : List ℕ) (at end b : ℕ) → 1 ≤ at → at ≤ end → end ≤ length l → slice_range (set l (at - 1) b) (at - 1) end ≡ b ∷ slice_range l at end
columns_put l at end b h k m =
    let n : at - 1 + 1 ≡ at = omega arith in
    let s : end - (at - 1) ≡ suc (end - at) = omega arith in
    let i : at - 1 < length l = omega arith in
    rw (drop-set l (at - 1) b i, s, n) refl

pub returns : goal.returns
returns c =
    let d = c.self.inside in
    let i = c.self.invariant in
    let p = columns_put d.bytes d.at d.end c.args.byte (rw (← c.self.view_is) at c.requires) i.0 (omega (arith, i.1, c.self.told)) in
    rw (← c.self.view_is, p) refl
