use Rattle.std.proofs.Common.{arith, ◌-◌}
use Rattle.whole.proofs.Logic.{in_at}
use Rattle.scene_writing.specs.Named.{no_half}
use Rattle.scene_writing.proofs.order.follows.Goals as goal

pub is_earlier-requires-clause-h_in : goal.is_earlier-requires-clause-h_in
is_earlier-requires-clause-h_in c = c.requires.order_in _ (in_at c.args.order.now no_half (c.args.k - 1) (omega (arith, c.requires.within)))
