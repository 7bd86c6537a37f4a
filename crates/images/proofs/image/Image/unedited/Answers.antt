use Rattle.images.proofs.Characters.{of_unedited}
use Rattle.images.proofs.Widths.{length-unedited}
use Rattle.images.proofs.image.Image.unedited.Goals as goal

pub image-requires-clause-printed : goal.image-requires-clause-printed
image-requires-clause-printed c = rw c.unedited.ensures (of_unedited c.args.amount.picture.digits c.args.amount.count)

pub returns-clause-width : goal.returns-clause-width
returns-clause-width c = rw (c.image.ensures.width, c.unedited.ensures) (length-unedited c.args.amount.picture.digits c.args.amount.count c.args.amount.picture.some)
