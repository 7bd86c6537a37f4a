use Rattle.std.proofs.Common.{arith}
use Rattle.std.proofs.lemmas.Int.{to_z-of_z, fits_signed_from_abs}
use Rattle.numbers.proofs.Sizes.{small_product}
use Rattle.numbers.proofs.arithmetic.product.Goals as goal

pub returns-clause-value : goal.returns-clause-value
returns-clause-value c = grind (arith, to_z-of_z, fits_signed_from_abs, small_product c.args.a c.args.b c.requires.a c.requires.b)

pub returns-clause-small : goal.returns-clause-small
returns-clause-small c = grind (arith, to_z-of_z, fits_signed_from_abs, small_product c.args.a c.args.b c.requires.a c.requires.b)
