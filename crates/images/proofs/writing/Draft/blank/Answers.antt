use Rattle.std.proofs.Common.{ℕ, ap}
use native.Mathlib.Nat.{sub-zero}
use Rattle.std.proofs.lemmas.List.{take-replicate}
use Rattle.images.specs.Limits.{image_columns}
use Rattle.images.specs.Drafts.{full}
use Rattle.images.proofs.writing.Draft.blank.Goals as goal

pub returns : goal.returns
returns c = rw (sub-zero c.args.width) (ap full (take-replicate {X = ℕ} c.args.width image_columns 32 c.requires))
