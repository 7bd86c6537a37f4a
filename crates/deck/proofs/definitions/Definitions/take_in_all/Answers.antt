use Rattle.std.proofs.Common.{rules, ◌<◌, Ok, Err, sym, ap, ◌∙◌, add-one, arith}
use Rattle.std.proofs.lemmas.Result.{err_from_is_err_and}
use Rattle.deck.specs.Defined.{defined_of, before_of}
use Rattle.deck.specs.Decks.{first_at, count, defined_by, seen_by}
use Rattle.deck.proofs.Sweeps.{as_many, within, few, taken, stopped, went_on, swept}
use Rattle.deck.proofs.definitions.Definitions.take_in_all.Goals as goal

pub overflow_cast-k : goal.overflow_cast-k
overflow_cast-k c =
    let h : c.loop-k.k < 256 = few c.args.text.now _ c.cards_of-cards.ensures c.loop-k.k c.loop-k-test.true c.requires.whole in
    search rules

pub returns-in_err-take_in : goal.returns-in_err-take_in
returns-in_err-take_in c =
    let text = c.args.text.now in
    let k = c.loop-k.k in
    let all = c.cards_of-cards.ensures in
    let p = err_from_is_err_and c.from_residual.result c.from_residual.ensures.1 in
    rw (p.1, p.2)
    (stopped (first_at text) k (count text) (within text _ all k c.loop-k-test.true) c.loop-k.invariant.0 c.in_err-take_in.field-0.0
    (taken text _ all k c.loop-k-test.true _ _ (Err c.in_err-take_in.field-0.0) (defined_of c.take_in.new.self) (before_of c.take_in.new.seen) c.loop-k.invariant.1 c.loop-k.invariant.2 c.in_err-take_in.ensures))

pub loop-k-preserved : goal.loop-k-preserved
loop-k-preserved c =
    let text = c.args.text.now in
    let k = c.loop-k.k in
    let all = c.cards_of-cards.ensures in
    let t = taken text _ all k c.loop-k-test.true _ _ (Ok c.in_ok-take_in.field-0) (defined_of c.take_in.new.self) (before_of c.take_in.new.seen) c.loop-k.invariant.1 c.loop-k.invariant.2 c.in_ok-take_in.ensures in (
      went_on (first_at text) k (count text) (within text _ all k c.loop-k-test.true) c.loop-k.invariant.0 t.0,
      t.1.0 ∙ ap (defined_by text) (sym (add-one k)),
      t.1.1 ∙ ap (seen_by text) (sym (add-one k)),
    )

pub returns : goal.returns
returns c = swept (first_at c.args.text.now) (defined_by c.args.text.now) c.loop-k.k (count c.args.text.now) _
    (omega (arith, c.loop-k-test.false, c.loop-k.auto.k-end, as_many c.args.text.now _ c.cards_of-cards.ensures)) c.loop-k.invariant.0 c.loop-k.invariant.1
