use Rattle.std.proofs.Common.{rules, ◌<◌, Ok, Err, sym, ap, ◌∙◌, add-one, arith}
use Rattle.std.proofs.lemmas.Result.{err_from_is_err_and}
use Rattle.deck.specs.Acted.{acted_of}
use Rattle.deck.specs.Decks.{second_at, count, acted_by}
use Rattle.deck.proofs.Sweeps.{as_many, within, few, looked, stopped, went_on, swept}
use Rattle.deck.proofs.actions.Actions.look_up_all.Goals as goal

pub overflow_cast-lookup : goal.overflow_cast-lookup
overflow_cast-lookup c =
    let h : c.loop-k.k < 256 = few c.args.text.now _ c.cards_of-cards.ensures c.loop-k.k c.loop-k-test.true c.requires.whole in
    search rules

pub returns-in_err-look_up : goal.returns-in_err-look_up
returns-in_err-look_up c =
    let text = c.args.text.now in
    let k = c.loop-k.k in
    let all = c.cards_of-cards.ensures in
    let p = err_from_is_err_and c.from_residual.result c.from_residual.ensures.1 in
    rw (p.1, p.2)
    (stopped (second_at text) k (count text) (within text _ all k c.loop-k-test.true) c.loop-k.invariant.0 c.in_err-look_up.field-0.0
    (looked text _ all k c.loop-k-test.true _ _ (Err c.in_err-look_up.field-0.0) (acted_of c.look_up.new.self) c.requires.fields c.loop-k.invariant.1 c.in_err-look_up.ensures))

pub loop-k-preserved : goal.loop-k-preserved
loop-k-preserved c =
    let text = c.args.text.now in
    let k = c.loop-k.k in
    let all = c.cards_of-cards.ensures in
    let t = looked text _ all k c.loop-k-test.true _ _ (Ok c.in_ok-look_up.field-0) (acted_of c.look_up.new.self) c.requires.fields c.loop-k.invariant.1 c.in_ok-look_up.ensures in
    (went_on (second_at text) k (count text) (within text _ all k c.loop-k-test.true) c.loop-k.invariant.0 t.0, t.1 ∙ ap (acted_by text) (sym (add-one k)))

pub returns : goal.returns
returns c = swept (second_at c.args.text.now) (acted_by c.args.text.now) c.loop-k.k (count c.args.text.now) _
    (omega (arith, c.loop-k-test.false, c.loop-k.auto.k-end, as_many c.args.text.now _ c.cards_of-cards.ensures)) c.loop-k.invariant.0 c.loop-k.invariant.1
