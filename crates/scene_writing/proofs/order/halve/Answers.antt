use Rattle.std.proofs.Common.{arith, ◌+◌, ◌-◌, ◌/◌}
use Rattle.whole.proofs.Logic.{in_at}
use Rattle.scene_writing.specs.Named.{no_half}
use Rattle.scene_writing.proofs.order.halve.Goals as goal

pub is_earlier-requires-clause-other_in : goal.is_earlier-requires-clause-other_in
is_earlier-requires-clause-other_in c =
    let l = c.loop-low in c.requires.order_in _ (in_at c.args.order.now no_half (l.low + (l.high - l.low) / 2) (omega (arith, l.invariant.within, c.loop-low-test.true)))
