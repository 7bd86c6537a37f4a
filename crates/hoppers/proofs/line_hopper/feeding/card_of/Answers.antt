use Rattle.std.proofs.Common.{◌∙◌}
use Rattle.columns.proofs.Fillings.{filled_behind}
use Rattle.hoppers.proofs.line_hopper.feeding.card_of.Goals as goal

pub returns : goal.returns
returns c = c.blank_filled.ensures ∙ filled_behind 80 c.args.line.now c.requires
