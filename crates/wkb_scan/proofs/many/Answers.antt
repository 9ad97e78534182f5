-- One more item is read: a fault ends the whole, and else the rest begins where it ended.
use Rattle.std.proofs.Common.{◌∙◌, ◌-◌, ◌+◌, sym, ap}
use Rattle.std.proofs.lemmas.Result.{err_from_is_err_and}
use Rattle.wkb_scan.specs.InTurn.{onward, in_turn}
use Rattle.wkb_scan.proofs.Laws.{turn}
use Rattle.wkb_scan.proofs.many.Goals as goal

pub returns-in_err-at : goal.returns-in_err-at
returns-in_err-at g c = λ read reads.
    let p = err_from_is_err_and c.from_residual.result c.from_residual.ensures.1 in
    rw (p.1, p.2)
    (sym (c.loop.invariant read reads
    ∙ turn read c.args.n c.loop.counter c.loop.at c.loop-test.true
    ∙ ap (λ r. onward r (in_turn read (c.args.n - (c.loop.counter + 1)))) (sym (reads c.loop.at c.item.result c.item.ensures) ∙ c.in_err-at.was)))

pub loop-preserved : goal.loop-preserved
loop-preserved g c = λ read reads.
    c.loop.invariant read reads
    ∙ turn read c.args.n c.loop.counter c.loop.at c.loop-test.true
    ∙ ap (λ r. onward r (in_turn read (c.args.n - (c.loop.counter + 1)))) (sym (reads c.loop.at c.item.result c.item.ensures) ∙ c.in_ok-at.was)
