use Rattle.std.proofs.Common.{◌≡◌, ℕ, List, ◌++◌, None, vec_items, sym, ap, ◌∙◌}
use Rattle.std.proofs.lemmas.Result.{err_from_is_err_and}
use Rattle.deck.specs.Acted.{acted_of}
use Rattle.deck.specs.Defined.{defined_of}
use Rattle.deck.specs.Decks.{cut, table_of, Table}
use Rattle.deck.proofs.Keeping.{keeps}
use Rattle.deck.proofs.Sweeps.{told_first, told_second, told_none, table_is}
use Rattle.deck.proofs.deck.Deck.fill.Goals as goal

pub returns-in_err-take_in_all-clause-answer : goal.returns-in_err-take_in_all-clause-answer
returns-in_err-take_in_all-clause-answer c =
    let whole : cut c.args.text.now ≡ None = sym c.tell_size.ensures ∙ c.in_ok-refuse.ensures in
    let p = err_from_is_err_and c.from_residual-in_err-take_in_all.result c.from_residual-in_err-take_in_all.ensures.1 in
    rw (p.1, p.2)
    (told_first c.args.text.now whole c.in_err-take_in_all.field-0.0 (defined_of c.take_in_all.new.self)
    (table_of (record { text = c.args.self.now.text; definitions = c.take_in_all.new.self; actions = c.args.self.now.actions }))
    c.in_err-take_in_all.ensures)

pub returns-in_err-look_up_all-clause-answer : goal.returns-in_err-look_up_all-clause-answer
returns-in_err-look_up_all-clause-answer c =
    let whole : cut c.args.text.now ≡ None = sym c.tell_size.ensures ∙ c.in_ok-refuse.ensures in
    let p = err_from_is_err_and c.from_residual-in_err-look_up_all.result c.from_residual-in_err-look_up_all.ensures.1 in
    rw (p.1, p.2)
    (told_second c.args.text.now whole c.in_err-look_up_all.field-0.0 (acted_of c.look_up_all.new.self)
    (table_of (record { text = c.args.self.now.text; definitions = c.take_in_all.new.self; actions = c.look_up_all.new.self }))
    c.in_ok-take_in_all.ensures.0 c.in_err-look_up_all.ensures)

pub returns : goal.returns
returns c =
    let text = c.args.text.now in
    let whole : cut c.args.text.now ≡ None = sym c.tell_size.ensures ∙ c.in_ok-refuse.ensures in
    let e : vec_items c.extend_from_slice.new.self ≡ text =
    c.in_ok-extend_from_slice.ensures.items ∙ ap (λ (xs : List ℕ). xs ++ text) (ap (λ (t : Table). t.text) c.requires) in
    let d = defined_of c.take_in_all.new.self in
    let a = acted_of c.look_up_all.new.self in
    let kept = told_none text whole c.in_ok-take_in_all.ensures.0 c.in_ok-look_up_all.ensures.0 in
    let table = table_is text (vec_items c.extend_from_slice.new.self) d a e c.in_ok-take_in_all.ensures.1 c.in_ok-look_up_all.ensures.1 in
    record { answer = (kept, table); keeps = keeps text kept }
