use Rattle.std.proofs.Common.{arith, ◌-◌}
use Rattle.whole.proofs.Logic.{in_at}
use Rattle.scene_writing.specs.Named.{no_half}
use Rattle.scene_writing.proofs.order.scan.Goals as goal

pub is_earlier-requires-clause-other_in : goal.is_earlier-requires-clause-other_in
is_earlier-requires-clause-other_in c = c.requires.order_in _ (in_at c.args.order.now no_half (c.loop-k.k - 1) (omega arith))
