use Rattle.images.specs.Edits.{style_of}
use Rattle.images.proofs.Characters.{of_edited}
use Rattle.images.proofs.Widths.{length-edited}
use Rattle.images.proofs.image.Image.edited.Goals as goal

pub image-requires-clause-printed : goal.image-requires-clause-printed
image-requires-clause-printed c = rw c.edited.ensures (of_edited c.style.result c.args.amount.picture.digits c.args.amount.picture.decimals c.args.amount.count)

pub returns-clause-width : goal.returns-clause-width
returns-clause-width c = rw (c.image.ensures.width, c.edited.ensures, c.style.ensures) (length-edited (style_of c.args.code) c.args.amount.picture.digits c.args.amount.picture.decimals c.args.amount.count c.args.amount.picture.inside)
