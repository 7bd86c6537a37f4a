use Rattle.std.proofs.Common.{◌-◌, refl, arith, rules}
use Rattle.std.proofs.lemmas.Slice.{between-put_mid}
use Rattle.images.proofs.writing.Draft.blank_front.Goals as goal

pub returns : goal.returns
returns c =
    let d = c.self.inside in
    let i = c.self.invariant in
    let p = between-put_mid d.at (d.end - d.at) d.bytes c.blank_front.new.columns d.end (omega (arith, i.0, i.1, c.self.told)) (search rules) in
    rw (← c.self.view_is, p, c.blank_front.ensures) refl
