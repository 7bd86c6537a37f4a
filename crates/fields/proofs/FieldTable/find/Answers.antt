use Rattle.std.proofs.Common.{sym, ◌∙◌, ap, vec_items}
use Rattle.std.specs.Str.{bytes_eq}
use Rattle.rules.specs.Finding.{first_of}
use Rattle.rules.proofs.Found.{first_of-map}
use Rattle.fields.proofs.FieldTable.find.Goals as goal

pub returns : goal.returns
returns c =
    c.first_equal.ensures.place ∙ ap (first_of _) c.as_slice.ensures.value
    ∙ sym (first_of-map (λ y. bytes_eq y c.args.name.now) (λ d. d.name) (vec_items c.args.self.now.definitions))
