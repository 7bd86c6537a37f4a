use Rattle.images.proofs.Backs.{codes_read_back, reads_back, shows_back, images_tell}
use Rattle.images.proofs.laws.images_read_back.Goals as goal

pub returns : goal.returns
returns c = record { codes = codes_read_back; unedited = reads_back; shown = shows_back; apart = images_tell }
