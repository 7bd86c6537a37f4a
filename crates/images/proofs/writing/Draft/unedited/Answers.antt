use Rattle.std.proofs.Common.{◌≡◌, ◌-◌, refl, arith}
use Rattle.images.proofs.Backs.{length_digits}
use Rattle.images.proofs.Widths.{text_is}
use Rattle.images.proofs.writing.Draft.unedited.Goals as goal

pub put_digits-requires : goal.put_digits-requires
put_digits-requires c = rw (text_is, length_digits, c.put.ensures, c.new-draft.ensures) (omega arith)

pub returns : goal.returns
returns c =
    let n = c.args.amount.picture.digits - 1 in
    let z : n - n ≡ 0 = omega arith in
    rw (c.put_digits.ensures, c.put.ensures, c.new-draft.ensures, text_is, length_digits, z, c.last_byte.ensures, c.is_negative.ensures, c.size-size.ensures.value) refl
