use Rattle.std.proofs.Common.{arith, ◌-◌}
use Rattle.whole.proofs.Logic.{in_at}
use Rattle.scene_writing.specs.Named.{no_half}
use Rattle.scene_writing.proofs.order.search.Goals as goal

pub is_earlier-requires-clause-other_in : goal.is_earlier-requires-clause-other_in
is_earlier-requires-clause-other_in c =
    let l = c.loop-step in c.requires.order_in _ (in_at c.args.order.now no_half (l.high - l.step) (omega (arith, l.invariant.passed.within, l.invariant.some, c.loop-step-test.true)))
