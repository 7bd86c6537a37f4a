use Rattle.std.proofs.Common.{◌≡◌, ◌<◌, ◌≤◌, length, ◌∙◌, arith}
use Rattle.std.proofs.lemmas.List.{length-take-le}
use Rattle.std.proofs.lemmas.Grind.{common_steps}
use Rattle.images.specs.Limits.{line_columns}
use Rattle.images.specs.Lines.{image_bytes}
use Rattle.images.proofs.Befores.{laid_part}
use Rattle.images.proofs.image.Image.lay.Goals as goal

pub returns-clause-line : goal.returns-clause-line
returns-clause-line c =
    let n : length (image_bytes c.args.self.now) ≡ c.args.self.now.width = length-take-le c.args.self.now.width c.args.self.now.bytes (omega (arith, c.args.self.now.long, c.args.self.now.fits)) in
    let a : c.copy_from_slice.new.self ≡ image_bytes c.args.self.now = c.copy_from_slice.ensures.after ∙ c.bytes.ensures in
    let e : 0 < c.args.end = grind (arith, common_steps) in
    let o : c.args.end ≤ line_columns = grind (arith, common_steps) in
    laid_part c.args.line.now c.args.end c.args.self.now.width (image_bytes c.args.self.now) c.copy_from_slice.new.self a n
    e o (omega arith) (omega arith)
