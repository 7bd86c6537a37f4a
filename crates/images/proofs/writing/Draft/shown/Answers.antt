use Rattle.std.proofs.Common.{◌≡◌, ◌-◌, length, refl, append-nil, arith}
use Rattle.images.specs.Images.{text, digits}
use Rattle.images.proofs.Fronts.{length-blanked}
use Rattle.images.proofs.Widths.{length-text}
use Rattle.images.proofs.writing.Draft.shown.Goals as goal

pub put_digits-requires : goal.put_digits-requires
put_digits-requires c =
    let p = c.args.amount.picture in
    rw c.new-draft.ensures (omega (arith, length-text c.args.style.commas p.decimals p.digits c.size.result p.inside, c.text_width.ensures.value))

pub push_sign-requires : goal.push_sign-requires
push_sign-requires c =
    let p = c.args.amount.picture in
    let t = text c.args.style.commas p.decimals (digits p.digits c.size.result) in
    rw (c.blank_front.ensures, c.put_digits.ensures, c.new-draft.ensures, append-nil t, length-blanked t)
    (omega (arith, length-text c.args.style.commas p.decimals p.digits c.size.result p.inside, c.text_width.ensures.value, c.text_width.ensures.fits))

pub returns : goal.returns
returns c =
    let p = c.args.amount.picture in
    let t = text c.args.style.commas p.decimals (digits p.digits c.size.result) in
    let z : c.text_width.result - length t ≡ 0 = omega (arith, length-text c.args.style.commas p.decimals p.digits c.size.result p.inside, c.text_width.ensures.value) in
    rw (c.push_sign.ensures, c.is_negative.ensures, c.blank_front.ensures, c.put_digits.ensures, c.new-draft.ensures, append-nil t, z, c.size.ensures.value) refl
