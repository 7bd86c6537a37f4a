use Rattle.std.proofs.Common.{◌∙◌}
use Rattle.columns.proofs.Fillings.{filled_behind}
use Rattle.strip.proofs.reading.padded_text.Goals as goal

pub returns : goal.returns
returns c = c.blank_filled.ensures ∙ filled_behind 132 c.args.bytes.now c.requires
